-- The code of a frame, as its lists are entered and left.
use Rattle.std.proofs.Common.{◌≡◌, ℕ, ◌≤◌, true, false, List, [], ◌∷◌, ◌++◌, length, Some, sym, ◌∙◌, ap, subst, arith}
use Rattle.std.proofs.lemmas.List.{drop_all}
use Rattle.std.proofs.lemmas.List.Sums.{fold-append}
use Rattle.vd_clight.specs.declared.typed.TStmt.{TStmt}
use Rattle.vd_machine.specs.declared.frame.Level.{Level}
use Rattle.vd_machine.specs.Kept.{Code, no_code, inside, under, code_of, broken, continued}

pub code_of-push : (below : List Level) (l : Level) → code_of (below ++ l ∷ []) ≡ under (code_of below) l
code_of-push below l = fold-append under no_code below (l ∷ [])

-- the list that comes to stand on top
popped : (below rest : List Level) (l : Level) → below ≡ rest ++ l ∷ [] → under (code_of rest) l ≡ code_of below
popped below rest l e = sym (ap code_of e ∙ code_of-push rest l)

exhausted : (list : List TStmt) (at : ℕ) (code : Code) → length list ≤ at → inside false list at code ≡ code
exhausted list at code h = ap (λ xs. record { left = xs ++ code.left; loops = code.loops }) (drop_all at list h)

-- a list at its end dropped
pub settled_more :
    (level l : Level) (below rest : List Level) → level.is_loop ≡ false → length level.list.now ≤ level.at → below ≡ rest ++ l ∷ [] →
    under (code_of rest) l ≡ under (code_of below) level
settled_more level l below rest e h p =
    popped below rest l p ∙ sym (ap (λ b. inside b level.list.now level.at (code_of below)) e ∙ exhausted level.list.now level.at (code_of below) h)

-- a list that is no loop's body left
pub loops_more :
    (level l : Level) (below rest : List Level) → level.is_loop ≡ false → below ≡ rest ++ l ∷ [] →
    (under (code_of rest) l).loops ≡ (under (code_of below) level).loops
loops_more level l below rest e p =
    ap (λ code. code.loops) (popped below rest l p) ∙ sym (ap (λ b. (inside b level.list.now level.at (code_of below)).loops) e)

-- the outermost list is no loop's body: there is no loop
pub loops_none : (level : Level) (below : List Level) → level.is_loop ≡ false → below ≡ [] → (under (code_of below) level).loops ≡ []
loops_none level below e p =
    ap (λ b. (inside b level.list.now level.at (code_of below)).loops) e ∙ ap (λ ls. (code_of ls).loops) p

pub broken_to : (level l : Level) (below rest : List Level) → level.is_loop ≡ true → below ≡ rest ++ l ∷ [] → Some (under (code_of rest) l) ≡ broken (under (code_of below) level).loops
broken_to level l below rest e p =
    ap (λ code. Some code) (popped below rest l p) ∙ sym (ap (λ b. broken (inside b level.list.now level.at (code_of below)).loops) e)

pub broken_out : (level : Level) (below : List Level) → level.is_loop ≡ true → below ≡ [] → Some no_code ≡ broken (under (code_of below) level).loops
broken_out level below e p =
    sym (ap (λ b. broken (inside b level.list.now level.at (code_of below)).loops) e ∙ ap (λ ls. broken (inside true level.list.now level.at (code_of ls)).loops) p)

pub continued_to :
    (level : Level) (below : List Level) (at : ℕ) → level.is_loop ≡ true → at ≡ length level.list.now →
    Some (inside level.is_loop level.list.now at (code_of below)) ≡ continued (under (code_of below) level).loops
continued_to level below at e h =
    ap (λ b. Some (inside b level.list.now at (code_of below))) e
    ∙ ap (λ xs. Some (record { left = xs; loops = record { body = level.list.now; after = (code_of below).left } ∷ (code_of below).loops })) (drop_all at level.list.now (subst (λ n. length level.list.now ≤ n) (sym h) le_refl))
    ∙ sym (ap (λ b. continued (inside b level.list.now level.at (code_of below)).loops) e)
  where
    le_refl : length level.list.now ≤ length level.list.now
    le_refl = omega arith
