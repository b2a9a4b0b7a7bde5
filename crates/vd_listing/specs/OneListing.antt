-- A section lists one thing.
use Rattle.std.proofs.Common.{◌≡◌, ◌++◌, ◌∷◌, ◌+◌, ◌∙◌, ◌==◌, ◌&&◌, ap, sym, refl, subst, codes, not, ℕ, Bool, true, false, List, [], length, Result}
use Rattle.std.proofs.lemmas.List.{append_cancel_right}
use Rattle.vd_heads.specs.declared.content.Mention.{Mention}
use Rattle.vd_outline.specs.Lines.{lacks}
use Rattle.vd_tokens.specs.declared.alphabet.Alphabet.TheVariants.{Declaration}
use Rattle.vd_tokens.specs.OneText.{one_tokenization}
use Rattle.vd_listing.specs.Listing.{listed, IsContent, IsCut, IsListing}

-- ---- where the header line ends

feed_stands : (y : ℕ) (ys : List ℕ) → y ≡ 10 → lacks 10 (y ∷ ys) ≡ true → ⊥
feed_stands y ys e h = let f = ap (λ b. lacks 10 (b ∷ ys)) e in absurd (cc)

tail_step : (b c : Bool) → b && c ≡ true → c ≡ true
tail_step true c h = h
tail_step false c h = absurd (cc)

tail_lacks : (x : ℕ) (xs : List ℕ) → lacks 10 (x ∷ xs) ≡ true → lacks 10 xs ≡ true
tail_lacks x xs h = tail_step (not (x == 10)) (lacks 10 xs) h

-- behind the first line feed the same stands
behind_line : (a b rest others : List ℕ) → lacks 10 a ≡ true → lacks 10 b ≡ true → a ++ 10 ∷ rest ≡ b ++ 10 ∷ others → rest ≡ others
behind_line [] [] rest others f g h = cc
behind_line [] (y ∷ ys) rest others f g h = let e : y ≡ 10 = cc in absurd (feed_stands y ys e g)
behind_line (x ∷ xs) [] rest others f g h = let e : x ≡ 10 = cc in absurd (feed_stands x xs e f)
behind_line (x ∷ xs) (y ∷ ys) rest others f g h = behind_line xs ys rest others (tail_lacks x xs f) (tail_lacks y ys g) (cc)

same_front : (a b rest others : List ℕ) → lacks 10 a ≡ true → lacks 10 b ≡ true → a ++ 10 ∷ rest ≡ b ++ 10 ∷ others → a ≡ b
same_front [] [] rest others f g h = refl
same_front [] (y ∷ ys) rest others f g h = let e : y ≡ 10 = cc in absurd (feed_stands y ys e g)
same_front (x ∷ xs) [] rest others f g h = let e : x ≡ 10 = cc in absurd (feed_stands x xs e f)
same_front (x ∷ xs) (y ∷ ys) rest others f g h = let e = same_front xs ys rest others (tail_lacks x xs f) (tail_lacks y ys g) (cc) in let d : x ≡ y = cc in ap (λ z. z ∷ xs) d ∙ ap (λ zs. y ∷ zs) e

-- a text is cut at its first line feed alone
pub one_cut : (text front rest header content : List ℕ) → text ≡ front ++ 10 ∷ rest → lacks 10 front ≡ true → IsCut text header content → rest ≡ content ++ codes "end\n"
one_cut text front rest header content is free cut = behind_line front header rest (content ++ codes "end\n") free cut.one_line (sym is ∙ cut.cut)

pub one_header : (text header content other others : List ℕ) → IsCut text header content → IsCut text other others → header ≡ other
one_header text header content other others a b = same_front header other (content ++ codes "end\n") (others ++ codes "end\n") a.one_line b.one_line (sym a.cut ∙ b.cut)

pub one_content : (text header content other others : List ℕ) → IsCut text header content → IsCut text other others → content ≡ others
one_content text header content other others a b = append_cancel_right content others (codes "end\n") (one_cut text header (content ++ codes "end\n") other others a.cut a.one_line b)

-- ---- what is listed

pub one_answer : (place : ℕ) (content : List ℕ) (a b : Result (List Mention) ℕ) → IsContent place content a → IsContent place content b → a ≡ b
one_answer place content a b x y = let same = one_tokenization Declaration x.tokenized y.tokenized in x.answer_is ∙ (ap (λ ts. listed true ts x.end) same.tokens ∙ (ap (λ e. listed true y.tokens e) same.ends ∙ sym y.answer_is))

-- a text has one answer at most
pub one_listing : (text : List ℕ) (a b : Result (List Mention) ℕ) → IsListing text a → IsListing text b → a ≡ b
one_listing text a b x y =
    let h = one_header text x.header x.content y.header y.content x.is_cut y.is_cut in
    let c = one_content text x.header x.content y.header y.content x.is_cut y.is_cut in
    one_answer (length y.header + 1) y.content a b (subst (λ k. IsContent (length k + 1) y.content a) h (subst (λ k. IsContent (length x.header + 1) k a) c x.listed_is)) y.listed_is
