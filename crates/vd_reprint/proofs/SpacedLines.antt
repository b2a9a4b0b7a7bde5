-- A line of words with one space between each two, as words with what is behind each.
use Rattle.std.proofs.Common.{ℕ, ◌≡◌, true, false, List, [], ◌∷◌, ◌++◌, map, codes, refl, sym, ◌∙◌, ap, subst, append_assoc}
use Rattle.std.specs.Prelude.{◌==◌}
use Rattle.std.specs.List.{join_with_byte}
use Rattle.vd_base.specs.declared.ctype.CType.{CType}
use Rattle.vd_clight.specs.Printed.{Words, type_words}
use Rattle.vd_tokens.specs.Bytes.{is_no_line_feed, AllBytes}
use Rattle.vd_cgrammar.specs.declared.kind.Kind.{Kind}
use Rattle.vd_cgrammar.specs.declared.kind.Kind.TheVariants as k
use Rattle.vd_cgrammar.specs.declared.kind.Class.TheVariants as c
use Rattle.vd_cgrammar.specs.Kinds.{has}
use Rattle.vd_cgrammar.specs.PrintLaw.{SpacedWord, spaced_text}
use Rattle.vd_cgrammar.specs.Precedence.{Vocabulary, text_of, SpellsType, simple, struct, pointer}
use Rattle.vd_cgrammar.proofs.PrintedSpells.{simple_words, struct_words, pointer_words}
use Rattle.vd_cgrammar.proofs.SectionWords.{have_vocabularies}
use Rattle.vd_reprint.proofs.KnownKinds.{AllTaken}
use Rattle.vd_reprint.proofs.TokenShapes.{IsWord, known_is_word, plain_append, word_is_plain}

-- every word is a token
unfoldable pub AllWords : Words → Type 0
AllWords [] = Unit {0}
AllWords (w ∷ ws) = IsWord w × AllWords ws

pub taken_are_words : (own : List ℕ) (ws : Words) → AllTaken (have_vocabularies own).vocabulary ws → AllWords ws
unfolding AllTaken AllWords
taken_are_words own [] a = tt
taken_are_words own (w ∷ ws) a = (known_is_word own w (λ e. a.0 ((have_vocabularies own).is.kinds w ∙ e)), taken_are_words own ws a.1)

-- a space behind each word, and a line feed behind the last
unfoldable pub spaced_words : (ws : Words) → AllWords ws → List SpacedWord
unfolding AllWords
spaced_words [] a = []
spaced_words (w ∷ []) a = record { kind = a.0.kind; word = w; blank = 10; is_token = a.0.is_token; is_space = refl } ∷ []
spaced_words (w ∷ v ∷ ws) a = record { kind = a.0.kind; word = w; blank = 32; is_token = a.0.is_token; is_space = refl } ∷ spaced_words (v ∷ ws) a.1

pub words_are : (ws : Words) (a : AllWords ws) → map (λ x. x.word) (spaced_words ws a) ≡ ws
unfolding AllWords spaced_words
words_are [] a = refl
words_are (w ∷ []) a = refl
words_are (w ∷ v ∷ ws) a = ap (λ z. w ∷ z) (words_are (v ∷ ws) a.1)

pub line_is : (w : List ℕ) (ws : Words) (a : AllWords (w ∷ ws)) → spaced_text (spaced_words (w ∷ ws) a) ≡ join_with_byte 32 (w ∷ ws) ++ codes "\n"
unfolding AllWords spaced_words
line_is w [] a = append_assoc w (codes "\n") []
line_is w (v ∷ ws) a =
    append_assoc w (32 ∷ []) (spaced_text (spaced_words (v ∷ ws) a.1)) ∙ (ap (λ z. w ++ 32 ∷ z) (line_is v ws a.1) ∙ sym (append_assoc w (32 ∷ join_with_byte 32 (v ∷ ws)) (codes "\n")))

pub line_is_plain : (ws : Words) → AllWords ws → AllBytes is_no_line_feed (join_with_byte 32 ws)
unfolding AllWords
line_is_plain [] a = tt
line_is_plain (w ∷ []) a = word_is_plain a.0.is_token
line_is_plain (w ∷ v ∷ ws) a = plain_append w (32 ∷ join_with_byte 32 (v ∷ ws)) (word_is_plain a.0.is_token) (refl, line_is_plain (v ∷ ws) a.1)

-- ---- how a type begins

-- the words begin with a byte that is no `e`
pub record Begins (ws : Words) : Type 0 where
  pub byte : ℕ
  pub bytes : List ℕ
  pub others : Words
  pub cut : ws ≡ (byte ∷ bytes) ∷ others
  pub is_no_e : (byte == 101) ≡ false

begins_simple : (kind : Kind) → has c.SimpleType kind ≡ true → Begins (text_of kind ∷ [])
begins_simple k.Int h = record { byte = 105; bytes = codes "nt"; others = []; cut = refl; is_no_e = refl }
begins_simple k.Unsigned h = record { byte = 117; bytes = codes "nsigned"; others = []; cut = refl; is_no_e = refl }
begins_simple k.Lock h = record { byte = 108; bytes = codes "ock"; others = []; cut = refl; is_no_e = refl }
begins_simple k.Void h = record { byte = 118; bytes = codes "oid"; others = []; cut = refl; is_no_e = refl }
begins_simple _ h = cc

pub begins_more : {ws : Words} → Begins ws → (us : Words) → Begins (ws ++ us)
begins_more b us = record { byte = b.byte; bytes = b.bytes; others = b.others ++ us; cut = ap (λ z. z ++ us) b.cut; is_no_e = b.is_no_e }

pub type_begins : (V : Vocabulary) {t : CType} {ws : Words} → SpellsType V t ws → Begins (type_words t)
type_begins V (simple w h made cut) = subst Begins (sym (ap type_words made ∙ simple_words (V.kind_at w) h)) (begins_simple (V.kind_at w) h)
type_begins V (struct s w hs h made cut) =
    subst Begins (sym (ap type_words made ∙ struct_words w)) (record { byte = 115; bytes = codes "truct"; others = w ∷ []; cut = refl; is_no_e = refl })
type_begins V (pointer to xs star hs s made cut) = subst Begins (sym (ap type_words made ∙ pointer_words to)) (begins_more (type_begins V s) (codes "*" ∷ []))
