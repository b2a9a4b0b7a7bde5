-- The lines of a section are read in one way.
use Rattle.std.proofs.Common.{◌≡◌, ◌+◌, ◌-◌, Bool, true, false, not, List, [], ◌∷◌, ◌++◌, length, codes, refl, ap, sym, ◌∙◌, subst, append_assoc, append-nil, length-append, arith}
use Rattle.std.specs.List.{list_all}
use Rattle.std.proofs.lemmas.List.Folds.{list_all-append}
use Rattle.std.proofs.lemmas.Slice.Eq.{bytes_eq-Decides}
use Rattle.vd_outline.specs.Lines.{lacks, is_line, is_end, joined}
use Rattle.vd_outline.specs.Outline.{Bytes}
use Rattle.vd_outline.specs.Reading.{HasInner, Ends}
use Rattle.vd_outline.proofs.Cuts.{and-true-left, and-true-right, both_true, cut_unique, lacks-line}

pub joined-append : (ls ms : List Bytes) → joined (ls ++ ms) ≡ joined ls ++ joined ms
joined-append [] ms = refl
joined-append (l ∷ ls) ms = ap (λ r. l ++ 10 ∷ r) (joined-append ls ms) ∙ sym (append_assoc l (10 ∷ joined ls) (joined ms))

-- ---- reading forward

-- some lines of a section were read
pub record HasRead (bytes rest : Bytes) : Type 0 where
  pub lines : List Bytes
  pub inner : HasInner bytes lines rest

pub all_with : (p : Bytes → Bool) (ls : List Bytes) (l : Bytes) → list_all p ls ≡ true → p l ≡ true → list_all p (ls ++ l ∷ []) ≡ true
all_with p ls l all one = list_all-append p ls (l ∷ []) ∙ both_true (list_all p ls) (list_all p (l ∷ [])) all (both_true (p l) true one refl)

pub line_read : (bytes rest line after : Bytes) → HasRead bytes rest → rest ≡ line ++ 10 ∷ after → is_line line ≡ true → is_end line ≡ false → HasRead bytes after
line_read bytes rest line after r cut printable other = record {
  lines = r.lines ++ line ∷ [];
  inner = record {
    cut = r.inner.cut ∙ ap (λ x. joined r.lines ++ x) cut ∙ ap (λ x. joined r.lines ++ x) (sym (append_assoc line (10 ∷ []) after))
        ∙ sym (append_assoc (joined r.lines) (line ++ 10 ∷ []) after) ∙ ap (λ x. x ++ after) (sym (joined-append r.lines (line ∷ [])));
    printable = all_with is_line r.lines line r.inner.printable printable;
    inside = all_with (λ l. not (is_end l)) r.lines line r.inner.inside (ap not other);
  };
}

pub ended : (bytes rest line after : Bytes) → HasRead bytes rest → rest ≡ line ++ 10 ∷ after → is_end line ≡ true → Ends bytes (length bytes - length after)
ended bytes rest line after r cut ends =
    let word : line ≡ codes "end" = (bytes_eq-Decides line (codes "end")).0 ends in
    let tail : rest ≡ codes "end" ++ 10 ∷ after = cut ∙ ap (λ l. l ++ 10 ∷ after) word in
    let whole : bytes ≡ joined r.lines ++ (codes "end" ++ 10 ∷ after) = r.inner.cut ∙ ap (λ x. joined r.lines ++ x) tail in
    let long : length bytes ≡ length (joined r.lines) + length (codes "end" ++ 10 ∷ after) = ap length whole ∙ length-append (joined r.lines) (codes "end" ++ 10 ∷ after) in
    record {
      lines = r.lines;
      rest = after;
      inner = record { cut = whole; printable = r.inner.printable; inside = r.inner.inside };
      counted = omega arith;
    }

-- ---- one way

not_true : (b : Bool) → not b ≡ true → b ≡ false
not_true true h = cc
not_true false h = refl

end_is_no_line : (ls : List Bytes) → list_all (λ l. not (is_end l)) (codes "end" ∷ ls) ≡ true → ⊥
end_is_no_line ls h = let bad : false ≡ true = and-true-left (not (is_end (codes "end"))) (list_all (λ l. not (is_end l)) ls) h in cc

-- where the bytes begin with lines that do not end a section, more lines of it and the line `end` follow
pub record GoesOn (bytes : Bytes) (read : List Bytes) (rest : Bytes) (lines : List Bytes) (after : Bytes) : Type 0 where
  pub more : List Bytes
  pub are : lines ≡ read ++ more
  pub cut : rest ≡ joined more ++ (codes "end" ++ 10 ∷ after)
  pub printable : list_all is_line more ≡ true
  pub inside : list_all (λ l. not (is_end l)) more ≡ true

pub goes_on : (bytes : Bytes) (read : List Bytes) (rest : Bytes) (lines : List Bytes) (after : Bytes)
    → HasInner bytes read rest → HasInner bytes lines (codes "end" ++ 10 ∷ after) → GoesOn bytes read rest lines after
goes_on bytes [] rest lines after r b = record { more = lines; are = refl; cut = sym r.cut ∙ b.cut; printable = b.printable; inside = b.inside }
goes_on bytes (l ∷ read) rest [] after r b =
    let e : (l ++ 10 ∷ joined read) ++ rest ≡ codes "end" ++ 10 ∷ after = sym r.cut ∙ b.cut in
    let line : lacks 10 l ≡ true = lacks-line l (and-true-left (is_line l) (list_all is_line read) r.printable) in
    let both = cut_unique 10 l (joined read ++ rest) (codes "end") after line refl (sym (append_assoc l (10 ∷ joined read) rest) ∙ e) in
    absurd (end_is_no_line read (subst (λ x. list_all (λ y. not (is_end y)) (x ∷ read) ≡ true) both.0 r.inside))
goes_on bytes (l ∷ read) rest (m ∷ lines) after r b =
    let e : (l ++ 10 ∷ joined read) ++ rest ≡ (m ++ 10 ∷ joined lines) ++ (codes "end" ++ 10 ∷ after) = sym r.cut ∙ b.cut in
    let one : lacks 10 l ≡ true = lacks-line l (and-true-left (is_line l) (list_all is_line read) r.printable) in
    let two : lacks 10 m ≡ true = lacks-line m (and-true-left (is_line m) (list_all is_line lines) b.printable) in
    let both = cut_unique 10 l (joined read ++ rest) m (joined lines ++ (codes "end" ++ 10 ∷ after)) one two
    (sym (append_assoc l (10 ∷ joined read) rest) ∙ e ∙ append_assoc m (10 ∷ joined lines) (codes "end" ++ 10 ∷ after)) in
    let ih : GoesOn (joined read ++ rest) read rest lines after = goes_on (joined read ++ rest) read rest lines after
    (record { cut = refl; printable = and-true-right (is_line l) (list_all is_line read) r.printable; inside = and-true-right (not (is_end l)) (list_all (λ y. not (is_end y)) read) r.inside })
    (record { cut = both.1; printable = and-true-right (is_line m) (list_all is_line lines) b.printable; inside = and-true-right (not (is_end m)) (list_all (λ y. not (is_end y)) lines) b.inside }) in
    let heads : l ≡ m = both.0 in
    record { more = ih.more; are = ap (λ x. x ∷ lines) (sym heads) ∙ ap (λ x. l ∷ x) ih.are; cut = ih.cut; printable = ih.printable; inside = ih.inside }

-- bytes that begin with the line `end` have no line of a section before it
none_before_end : (after : Bytes) (more : List Bytes) (after' : Bytes) → codes "end" ++ 10 ∷ after ≡ joined more ++ (codes "end" ++ 10 ∷ after')
    → list_all is_line more ≡ true → list_all (λ l. not (is_end l)) more ≡ true → (more ≡ []) × (after ≡ after')
none_before_end after [] after' cut printable inside = (refl, cc)
none_before_end after (n ∷ more) after' cut printable inside =
    let one : lacks 10 n ≡ true = lacks-line n (and-true-left (is_line n) (list_all is_line more) printable) in
    let both = cut_unique 10 (codes "end") after n (joined more ++ (codes "end" ++ 10 ∷ after')) refl one (cut ∙ append_assoc n (10 ∷ joined more) (codes "end" ++ 10 ∷ after')) in
    absurd (end_is_no_line more (subst (λ x. list_all (λ y. not (is_end y)) (x ∷ more) ≡ true) (sym both.0) inside))

-- the lines up to the line `end` are read in one way
pub body_unique : (bytes : Bytes) (ls ms : List Bytes) (after after' : Bytes)
    → HasInner bytes ls (codes "end" ++ 10 ∷ after) → HasInner bytes ms (codes "end" ++ 10 ∷ after') → (ls ≡ ms) × (after ≡ after')
body_unique bytes ls ms after after' r b =
    let g : GoesOn bytes ls (codes "end" ++ 10 ∷ after) ms after' = goes_on bytes ls (codes "end" ++ 10 ∷ after) ms after' r b in
    let none = none_before_end after g.more after' g.cut g.printable g.inside in
    (sym (g.are ∙ ap (λ x. ls ++ x) none.0 ∙ append-nil ls), none.1)
