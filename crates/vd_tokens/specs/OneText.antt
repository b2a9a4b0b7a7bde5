-- A text is made of tokens in one way.
use Rattle.std.proofs.Common.{ℕ, ◌+◌, ◌≡◌, Some, List, [], ◌∷◌, ◌++◌, length, refl, sym, ◌∙◌, ap, subst}
use Rattle.vd_tokens.specs.declared.alphabet.Alphabet.{Alphabet}
use Rattle.vd_tokens.specs.declared.token.TokenKind.{TokenKind}
use Rattle.vd_tokens.specs.declared.token.End.{End}
use Rattle.vd_tokens.specs.Lexeme.{Lexeme}
use Rattle.vd_tokens.specs.Text.{Shape, Token, Gap, Unclosed, IsElement, IsFirst, Tokenizes, ends, nothing_begins, nothing_closes, behind_gap, token}
use Rattle.vd_tokens.specs.Shapes.{shape_is}

-- how two fronts of one text lie
data Fronts (xs us ys ws : List ℕ) : Type 0 where
  same : xs ≡ ys → us ≡ ws → Fronts xs us ys ws
  first_ends : (b : ℕ) (more : List ℕ) → us ≡ b ∷ (more ++ ws) → ys ≡ xs ++ b ∷ more → Fronts xs us ys ws
  second_ends : (b : ℕ) (more : List ℕ) → ws ≡ b ∷ (more ++ us) → xs ≡ ys ++ b ∷ more → Fronts xs us ys ws

fronts_behind : {xs us ys ws : List ℕ} (x y : ℕ) → x ≡ y → Fronts xs us ys ws → Fronts (x ∷ xs) us (y ∷ ys) ws
fronts_behind x y e (same h g) = same (cc) g
fronts_behind x y e (first_ends b more h g) = first_ends b more h (cc)
fronts_behind x y e (second_ends b more h g) = second_ends b more h (cc)

two_fronts : (xs us ys ws : List ℕ) → xs ++ us ≡ ys ++ ws → Fronts xs us ys ws
two_fronts [] us [] ws h = same refl h
two_fronts [] us (y ∷ ys) ws h = first_ends y ys h refl
two_fronts (x ∷ xs) us [] ws h = second_ends x xs (sym h) refl
two_fronts (x ∷ xs) us (y ∷ ys) ws h = let e : xs ++ us ≡ ys ++ ws = cc in fronts_behind x y (cc) (two_fronts xs us ys ws e)

module _ (alphabet : Alphabet) where
  one_shape : {s r : Shape} {bs : List ℕ} → IsElement alphabet s bs → IsElement alphabet r bs → s ≡ r
  one_shape {s} {r} x y = let e : Some s ≡ Some r = sym (shape_is x) ∙ shape_is y in cc

  record SameFirst (s r : Shape) (front rest other others : List ℕ) : Type 0 where
    shapes : s ≡ r
    fronts : front ≡ other
    rests : rest ≡ others

  same_first : {s r : Shape} {text front rest other others : List ℕ} → IsFirst alphabet s text front rest → IsFirst alphabet r text other others → SameFirst s r front rest other others
  same_first {s} {r} {text} {front} {rest} {other} {others} x y = by_fronts (two_fronts front rest other others (sym x.cut ∙ y.cut))
    where
      by_fronts : Fronts front rest other others → SameFirst s r front rest other others
      by_fronts (same h g) = record { shapes = one_shape x.is (subst (IsElement alphabet r) (sym h) y.is); fronts = h; rests = g }
      by_fronts (first_ends b more h g) = absurd (x.longest r b more others h (subst (IsElement alphabet r) g y.is))
      by_fronts (second_ends b more h g) = absurd (y.longest s b more rest h (subst (IsElement alphabet s) g x.is))

  not_empty : {s : Shape} {front rest : List ℕ} → IsFirst alphabet s [] front rest → ⊥
  not_empty {front = []} x = let e = shape_is x.is in cc
  not_empty {front = b ∷ front} x = let e = x.cut in cc

  -- The tokens are the same, and so is what they end at.
  pub record SameTokens (ts us : List Lexeme) (last other : End) : Type 0 where
    pub tokens : ts ≡ us
    pub ends : last ≡ other

  one_more : {ts us : List Lexeme} {last other : End} (k j : TokenKind) (place : ℕ) (front behind : List ℕ) → Token k ≡ Token j → front ≡ behind → SameTokens ts us last other
      → SameTokens (record { kind = k; place = place; spelling = front } ∷ ts) (record { kind = j; place = place; spelling = behind } ∷ us) last other
  one_more {ts} {us} k j place front behind h g s =
      let kinds : k ≡ j = cc in
      record {
        tokens = ap (λ x. record { kind = x; place = place; spelling = front } ∷ ts) kinds ∙ (ap (λ x. record { kind = j; place = place; spelling = x } ∷ ts) g ∙ ap (λ xs. record { kind = j; place = place; spelling = behind } ∷ xs) s.tokens);
        ends = s.ends;
      }

  behind_same : (place : ℕ) {s r : Shape} {front rest other others : List ℕ} {ts : List Lexeme} {last : End} → SameFirst s r front rest other others
      → Tokenizes alphabet (place + length other) others ts last → Tokenizes alphabet (place + length front) rest ts last
  behind_same place {rest = rest} {other = other} {ts = ts} {last = last} e d =
      subst (λ n. Tokenizes alphabet (place + n) rest ts last) (ap length (sym e.fronts)) (subst (λ x. Tokenizes alphabet (place + length other) x ts last) (sym e.rests) d)

  pub one_tokenization : {place : ℕ} {text : List ℕ} {ts us : List Lexeme} {last other : End} → Tokenizes alphabet place text ts last → Tokenizes alphabet place text us other → SameTokens ts us last other
  one_tokenization ends ends = record { tokens = refl; ends = refl }
  one_tokenization ends (nothing_closes y) = absurd (not_empty y)
  one_tokenization ends (behind_gap y e) = absurd (not_empty y)
  one_tokenization ends (token y e) = absurd (not_empty y)
  one_tokenization (nothing_begins n) (nothing_begins m) = record { tokens = refl; ends = refl }
  one_tokenization (nothing_begins n) (nothing_closes {front = front} {rest = rest} y) = absurd (n Unclosed front rest y.cut y.is)
  one_tokenization (nothing_begins n) (behind_gap {front = front} {rest = rest} y e) = absurd (n Gap front rest y.cut y.is)
  one_tokenization (nothing_begins n) (token {front = front} {rest = rest} {kind = kind} y e) = absurd (n (Token kind) front rest y.cut y.is)
  one_tokenization (nothing_closes x) ends = absurd (not_empty x)
  one_tokenization (nothing_closes {front = front} {rest = rest} x) (nothing_begins n) = absurd (n Unclosed front rest x.cut x.is)
  one_tokenization (nothing_closes x) (nothing_closes y) = record { tokens = refl; ends = refl }
  one_tokenization (nothing_closes x) (behind_gap y e) = let s = (same_first x y).shapes in cc
  one_tokenization (nothing_closes x) (token y e) = let s = (same_first x y).shapes in cc
  one_tokenization (behind_gap x d) ends = absurd (not_empty x)
  one_tokenization (behind_gap {front = front} {rest = rest} x d) (nothing_begins n) = absurd (n Gap front rest x.cut x.is)
  one_tokenization (behind_gap x d) (nothing_closes y) = let s = (same_first x y).shapes in cc
  one_tokenization (behind_gap {place = place} x d) (behind_gap y e) = one_tokenization d (behind_same place (same_first x y) e)
  one_tokenization (behind_gap x d) (token y e) = let s = (same_first x y).shapes in cc
  one_tokenization (token x d) ends = absurd (not_empty x)
  one_tokenization (token {front = front} {rest = rest} {kind = kind} x d) (nothing_begins n) = absurd (n (Token kind) front rest x.cut x.is)
  one_tokenization (token x d) (nothing_closes y) = let s = (same_first x y).shapes in cc
  one_tokenization (token x d) (behind_gap y e) = let s = (same_first x y).shapes in cc
  one_tokenization (token {place = place} {front = front} {kind = k} x d) (token {front = behind} {kind = j} y e) =
      let s = same_first x y in one_more k j place front behind s.shapes s.fronts (one_tokenization d (behind_same place s e))
