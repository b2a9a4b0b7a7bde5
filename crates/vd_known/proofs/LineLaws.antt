-- Header lines of a text, one after the other, and the names in them.
use Rattle.std.proofs.Common.{◌≡◌, ◌↔◌, ◌⊎◌, ℕ, zero, suc, ◌<◌, true, false, ◌||◌, List, [], ◌∷◌, ◌++◌, length, get_or, All, inl, inr, refl, ap, sym, ◌∙◌, subst, arith, append_assoc}
use Rattle.std.proofs.lemmas.Bool.{or_cases, or_left, or_right}
use Rattle.std.proofs.lemmas.List.Folds.{list_any-append}
use Rattle.std.proofs.lemmas.List.Elements.{All-nil, All-head, All-tail, All-push, Contains-push, Contains-push_cases, Contains-append_left}
use Rattle.std.proofs.lemmas.Slice.Eq.{bytes_eq-Decides}
use Rattle.std.specs.List.{Contains, list_any}
use Rattle.std.specs.Str.{bytes_eq}
use Rattle.vd_outline.specs.declared.section.SectionKind.{SectionKind}
use Rattle.vd_outline.specs.declared.section.SectionKind.TheVariants as section
use Rattle.vd_outline.specs.Lines.{lacks, joined}
use Rattle.vd_outline.specs.Outline.{section_word}
use Rattle.vd_outline.proofs.BodyLaws.{joined-append}
use Rattle.vd_outline.proofs.Cuts.{uncut, cut_unique, lacks_head, lacks_rest}
use Rattle.vd_outline.proofs.WordLaws.{lacks_section_word}
use Rattle.vd_heads.specs.Declaration.{Bytes}
use Rattle.vd_known.specs.declared.completeness.Bodies.{Bodies}
use Rattle.vd_known.specs.declared.names.Names.{Names}
use Rattle.vd_known.specs.Completeness.{HasLine, Stands}
use Rattle.vd_known.specs.HeaderNames.{IsIn, AreBodies}
use Rattle.vd_known.specs.Names.{names_of, IsSet}

-- ---- the name behind a word

pub other_word : (kind : SectionKind) (line word rest : Bytes) → line ≡ word ++ 32 ∷ rest → lacks 32 word ≡ true → (word ≡ section_word kind → ⊥) → (name : Bytes) → line ≡ section_word kind ++ 32 ∷ name → ⊥
other_word kind line word rest cut one other name e = other ((cut_unique 32 word rest (section_word kind) name one (lacks_section_word 32 kind refl) (sym cut ∙ e)).0)

pub same_name : (kind : SectionKind) (line name other : Bytes) → line ≡ section_word kind ++ 32 ∷ name → line ≡ section_word kind ++ 32 ∷ other → name ≡ other
same_name kind line name other e f = (cut_unique 32 (section_word kind) name (section_word kind) other (lacks_section_word 32 kind refl) (lacks_section_word 32 kind refl) (sym e ∙ f)).1

is_either : (f n : Bytes) → bytes_eq f n || false ≡ true → f ≡ n
is_either f n e = elim (or_cases (bytes_eq f n) false e) [ inl h ↦ (bytes_eq-Decides f n).0 h | inr h ↦ absurd (let g : false ≡ true = h in cc) ]

-- one name more, of the line that has it
pub names_more : (kind : SectionKind) (line name : Bytes) (old new : Names) → line ≡ section_word kind ++ 32 ∷ name → names_of new ≡ names_of old ++ name ∷ [] → (f : Bytes) → IsIn new f ↔ (IsIn old f ⊎ (line ≡ section_word kind ++ 32 ∷ f))
names_more kind line name old new is more f = (to, from) where
  split : list_any (bytes_eq f) (names_of new) ≡ list_any (bytes_eq f) (names_of old) || (bytes_eq f name || false)
  split = ap (list_any (bytes_eq f)) more ∙ list_any-append (bytes_eq f) (names_of old) (name ∷ [])

  to : IsIn new f → IsIn old f ⊎ (line ≡ section_word kind ++ 32 ∷ f)
  to h = elim (or_cases (list_any (bytes_eq f) (names_of old)) (bytes_eq f name || false) (sym (ap (list_any (bytes_eq f)) more ∙ list_any-append (bytes_eq f) (names_of old) (name ∷ [])) ∙ h)) [
    | inl a ↦ inl a
    | inr b ↦ inr (is ∙ ap (λ x. section_word kind ++ 32 ∷ x) (sym (is_either f name b)))
  ]

  from : IsIn old f ⊎ (line ≡ section_word kind ++ 32 ∷ f) → IsIn new f
  from (inl a) = (ap (list_any (bytes_eq f)) more ∙ list_any-append (bytes_eq f) (names_of old) (name ∷ [])) ∙ or_left (list_any (bytes_eq f) (names_of old)) (bytes_eq f name || false) a
  from (inr b) = (ap (list_any (bytes_eq f)) more ∙ list_any-append (bytes_eq f) (names_of old) (name ∷ [])) ∙ or_right (list_any (bytes_eq f) (names_of old)) (bytes_eq f name || false) (or_left (bytes_eq f name) false ((bytes_eq-Decides f name).1 (same_name kind line f name b is)))

-- ---- lines of a text

split_front : (l x front y : Bytes) → lacks 10 l ≡ true → l ++ 10 ∷ x ≡ front ++ 10 ∷ y → ((front ≡ l) × (x ≡ y)) ⊎ ((more : Bytes) × (front ≡ l ++ 10 ∷ more) × (x ≡ more ++ 10 ∷ y))
split_front [] x [] y one e = inl (refl, cc)
split_front [] x (b ∷ front) y one e = let head : 10 ≡ b = cc in inr (front, ap (λ z. z ∷ front) (sym head), cc)
split_front (a ∷ l) x [] y one e = absurd (lacks_head 10 a l one (cc))
split_front (a ∷ l) x (b ∷ front) y one e =
    let head : a ≡ b = cc in
    elim (split_front l x front y (lacks_rest 10 a l one) (cc)) [
      | inl h ↦ inl ((let g = h.0 in cc), h.1)
      | inr h ↦ inr (h.0, (let g = h.1 in cc), h.2)
    ]

-- The line is one of these, or none.
line_among : (ls : List Bytes) (rest before line after : Bytes) → All (λ l. lacks 10 l ≡ true) ls → lacks 10 rest ≡ true → lacks 10 line ≡ true → (before ≡ []) ⊎ ((front : Bytes) × (before ≡ front ++ 10 ∷ []))
    → joined ls ++ rest ≡ before ++ (line ++ 10 ∷ after) → Contains ls line
line_among [] rest before line after all last one begins e = absurd (uncut 10 rest (before ++ line) after last (e ∙ sym (append_assoc before line (10 ∷ after))))
line_among (l ∷ ls) rest before line after all last one begins e = elim begins [
  | inl none ↦ (let same = cut_unique 10 l (joined ls ++ rest) line after (All-head (λ x. lacks 10 x ≡ true) l ls all) one (sym (append_assoc l (10 ∷ joined ls) rest) ∙ (e ∙ ap (λ b. b ++ (line ++ 10 ∷ after)) none)) in
      (0, omega arith, same.0))
  | inr h ↦ (let whole : l ++ 10 ∷ (joined ls ++ rest) ≡ h.0 ++ 10 ∷ (line ++ 10 ∷ after) = sym (append_assoc l (10 ∷ joined ls) rest) ∙ (e ∙ (ap (λ b. b ++ (line ++ 10 ∷ after)) h.1 ∙ append_assoc h.0 (10 ∷ []) (line ++ 10 ∷ after))) in
      elim (split_front l (joined ls ++ rest) h.0 (line ++ 10 ∷ after) (All-head (λ x. lacks 10 x ≡ true) l ls all) whole) [
        | inl s ↦ later (line_among ls rest [] line after (All-tail (λ x. lacks 10 x ≡ true) l ls all) last one (inl refl) s.1)
        | inr s ↦ later (line_among ls rest (s.0 ++ 10 ∷ []) line after (All-tail (λ x. lacks 10 x ≡ true) l ls all) last one (inr (s.0, refl)) (s.2 ∙ sym (append_assoc s.0 (10 ∷ []) (line ++ 10 ∷ after))))
      ])
] where
  later : Contains ls line → Contains (l ∷ ls) line
  later k = (suc k.0, (let w = k.1 in omega (arith, w)), k.2)

among_line : (ls : List Bytes) (rest : Bytes) (k : ℕ) (line : Bytes) → All (λ l. lacks 10 l ≡ true) ls → k < length ls → get_or ls k line ≡ line → HasLine (joined ls ++ rest) line
among_line [] rest k line all below at = absurd (omega (arith, below))
among_line (l ∷ ls) rest zero line all below at = record {
  before = [];
  after = joined ls ++ rest;
  cut = append_assoc l (10 ∷ joined ls) rest ∙ ap (λ x. x ++ 10 ∷ (joined ls ++ rest)) at;
  one = ap (lacks 10) (sym at) ∙ All-head (λ x. lacks 10 x ≡ true) l ls all;
  begins = inl refl;
}
among_line (l ∷ ls) rest (suc k) line all below at =
    let r = among_line ls rest k line (All-tail (λ x. lacks 10 x ≡ true) l ls all) (omega (arith, below)) at in
    record {
      before = l ++ 10 ∷ r.before;
      after = r.after;
      cut = append_assoc l (10 ∷ joined ls) rest ∙ (ap (λ x. l ++ 10 ∷ x) r.cut ∙ sym (append_assoc l (10 ∷ r.before) (line ++ 10 ∷ r.after)));
      one = r.one;
      begins = elim r.begins [ inl none ↦ inr (l, ap (λ x. l ++ 10 ∷ x) none) | inr h ↦ inr (l ++ 10 ∷ h.0, ap (λ x. l ++ 10 ∷ x) h.1 ∙ sym (append_assoc l (10 ∷ h.0) (10 ∷ []))) ];
    }

-- So many lines of a text are read.
pub record Read (text rest : Bytes) (ls : List Bytes) : Type 0 where
  pub cut : text ≡ joined ls ++ rest
  pub whole : All (λ l. lacks 10 l ≡ true) ls

-- The set has the names in these lines.
abbrev pub HasNames : SectionKind → List Bytes → Names → Type 0
HasNames kind ls names = (f : Bytes) → IsIn names f ↔ Contains ls (section_word kind ++ 32 ∷ f)

pub all_read : (kind : SectionKind) (text rest : Bytes) (ls : List Bytes) (names : Names) → Read text rest ls → lacks 10 rest ≡ true → HasNames kind ls names → (f : Bytes) → IsIn names f ↔ Stands text kind f
all_read kind text rest ls names read last named f = (
  λ h. let k = (named f).0 h in subst (λ t. HasLine t (section_word kind ++ 32 ∷ f)) (sym read.cut) (among_line ls rest k.0 (section_word kind ++ 32 ∷ f) read.whole k.1 k.2),
  λ h. (named f).1 (line_among ls rest h.before (section_word kind ++ 32 ∷ f) h.after read.whole last h.one h.begins (sym read.cut ∙ h.cut)),
)

-- What is known of a text whose first lines are read.
pub record SoFar (text rest : Bytes) (functions scripts subs : Names) : Type 0 where
  pub lines : List Bytes
  pub read : Read text rest lines
  pub functions_set : IsSet functions
  pub scripts_set : IsSet scripts
  pub subs_set : IsSet subs
  pub functions_named : HasNames section.Fn lines functions
  pub scripts_named : HasNames section.Script lines scripts
  pub subs_named : HasNames section.Sub lines subs

none_named : (kind : SectionKind) (names : Names) → names_of names ≡ [] → HasNames kind [] names
none_named kind names e f = (λ h. absurd (let g : list_any (bytes_eq f) (names_of names) ≡ false = ap (list_any (bytes_eq f)) e in let k : list_any (bytes_eq f) (names_of names) ≡ true = h in cc), λ h. absurd (let w : h.0 < 0 = h.1 in omega (arith, w)))

more_named : (kind : SectionKind) (ls : List Bytes) (line : Bytes) (old new : Names) → HasNames kind ls old → ((f : Bytes) → IsIn new f ↔ (IsIn old f ⊎ (line ≡ section_word kind ++ 32 ∷ f))) → HasNames kind (ls ++ line ∷ []) new
more_named kind ls line old new named more f = (
  λ h. elim ((more f).0 h) [ inl a ↦ Contains-append_left ls (line ∷ []) (section_word kind ++ 32 ∷ f) ((named f).0 a) | inr b ↦ subst (Contains (ls ++ line ∷ [])) b (Contains-push ls line) ],
  λ h. (more f).1 (elim (Contains-push_cases ls line (section_word kind ++ 32 ∷ f) h) [ inl a ↦ inl ((named f).1 a) | inr b ↦ inr b ]),
)

pub nothing_read : (text rest : Bytes) (functions scripts subs : Names) → text ≡ rest → IsSet functions → IsSet scripts → IsSet subs → names_of functions ≡ [] → names_of scripts ≡ [] → names_of subs ≡ [] → SoFar text rest functions scripts subs
nothing_read text rest functions scripts subs e a b c no_a no_b no_c = record {
  lines = [];
  read = record { cut = e; whole = All-nil (λ l. lacks 10 l ≡ true) };
  functions_set = a;
  scripts_set = b;
  subs_set = c;
  functions_named = none_named section.Fn functions no_a;
  scripts_named = none_named section.Script scripts no_b;
  subs_named = none_named section.Sub subs no_c;
}

pub one_read : (text rest line after : Bytes) (functions scripts subs more_functions more_scripts more_subs : Names) → SoFar text rest functions scripts subs → rest ≡ line ++ 10 ∷ after → lacks 10 line ≡ true
    → IsSet more_functions → IsSet more_scripts → IsSet more_subs
    → ((f : Bytes) → IsIn more_functions f ↔ (IsIn functions f ⊎ (line ≡ section_word section.Fn ++ 32 ∷ f)))
    → ((f : Bytes) → IsIn more_scripts f ↔ (IsIn scripts f ⊎ (line ≡ section_word section.Script ++ 32 ∷ f)))
    → ((f : Bytes) → IsIn more_subs f ↔ (IsIn subs f ⊎ (line ≡ section_word section.Sub ++ 32 ∷ f)))
    → SoFar text after more_functions more_scripts more_subs
one_read text rest line after functions scripts subs more_functions more_scripts more_subs s cut one a b c named_a named_b named_c = record {
  lines = s.lines ++ line ∷ [];
  read = record {
    cut = s.read.cut ∙ (ap (λ r. joined s.lines ++ r) cut ∙ (sym (append_assoc (joined s.lines) (line ++ 10 ∷ []) after ∙ ap (λ r. joined s.lines ++ r) (append_assoc line (10 ∷ []) after)) ∙ ap (λ j. j ++ after) (sym (joined-append s.lines (line ∷ [])))));
    whole = All-push (λ l. lacks 10 l ≡ true) s.lines line s.read.whole one;
  };
  functions_set = a;
  scripts_set = b;
  subs_set = c;
  functions_named = more_named section.Fn s.lines line functions more_functions s.functions_named named_a;
  scripts_named = more_named section.Script s.lines line scripts more_scripts s.scripts_named named_b;
  subs_named = more_named section.Sub s.lines line subs more_subs s.subs_named named_c;
}

pub bodies_read : (text rest : Bytes) (bodies : Bodies) → SoFar text rest bodies.functions bodies.scripts bodies.subs → lacks 10 rest ≡ true → AreBodies text bodies
bodies_read text rest bodies s last = record {
  functions = record { set = s.functions_set; named = all_read section.Fn text rest s.lines bodies.functions s.read last s.functions_named };
  scripts = record { set = s.scripts_set; named = all_read section.Script text rest s.lines bodies.scripts s.read last s.scripts_named };
  subs = record { set = s.subs_set; named = all_read section.Sub text rest s.lines bodies.subs s.read last s.subs_named };
}
