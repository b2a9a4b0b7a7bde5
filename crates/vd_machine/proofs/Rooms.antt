-- Nesting, and frames that have room for it.
use Rattle.std.proofs.Common.{◌≡◌, ℕ, zero, suc, ◌+◌, ◌<◌, ◌≤◌, max, min, List, [], ◌∷◌, ◌++◌, length, get_or, slice_set, drop, map, Option, sym, ◌∙◌, ap, subst, arith}
use Rattle.vd_base.specs.declared.name.Name.{Name}
use Rattle.vd_clight.specs.declared.typed.TypedFn.{TypedFn}
use Rattle.vd_clight.specs.declared.typed.Cond.{Cond}
use Rattle.vd_clight.specs.declared.typed.LockOp.{LockOp}
use Rattle.vd_clight.specs.declared.typed.Lval.{Lval}
use Rattle.vd_clight.specs.declared.typed.TExpr.{TExpr}
use Rattle.vd_clight.specs.declared.typed.TStmt.{TStmt, Skip, Set, Load, Store, Call, Malloc, Free, Lock, Spawn, If, Loop, Break, Continue, Return, fold_out-TStmt}
use Rattle.vd_clight.specs.declared.typed.TStmt.TheVariants.{outs-Skip, outs-Set, outs-Load, outs-Store, outs-Call, outs-Malloc, outs-Free, outs-Lock, outs-Spawn, outs-If, outs-Loop, outs-Break, outs-Continue, outs-Return}
use Rattle.vd_machine.specs.declared.frame.Level.{Level}
use Rattle.vd_machine.specs.declared.frame.Waiting.{Waiting}
use Rattle.vd_machine.specs.declared.frame.Thread.{Thread}
use Rattle.vd_machine.specs.Room.{depth, depth_of, function_depth, FitFrom, IsRoomy, AreRoomy, IsReadySlot, AreReady}
use Rattle.vd_machine.proofs.Walks.{drop_at}

pub depth-Skip : depth Skip ≡ 0
unfolding depth
depth-Skip = rw (fold_out-TStmt _ _ Skip, outs-Skip)

pub depth-Set : (x : ℕ) (e : TExpr) → depth (Set x e) ≡ 0
unfolding depth
depth-Set x e = rw (fold_out-TStmt _ _ (Set x e), outs-Set x e)

pub depth-Load : (x : ℕ) (l : Lval) → depth (Load x l) ≡ 0
unfolding depth
depth-Load x l = rw (fold_out-TStmt _ _ (Load x l), outs-Load x l)

pub depth-Store : (l : Lval) (e : TExpr) → depth (Store l e) ≡ 0
unfolding depth
depth-Store l e = rw (fold_out-TStmt _ _ (Store l e), outs-Store l e)

pub depth-Call : (x : Option ℕ) (f : Name) (es : List TExpr) → depth (Call x f es) ≡ 0
unfolding depth
depth-Call x f es = rw (fold_out-TStmt _ _ (Call x f es), outs-Call x f es)

pub depth-Malloc : (x n : ℕ) → depth (Malloc x n) ≡ 0
unfolding depth
depth-Malloc x n = rw (fold_out-TStmt _ _ (Malloc x n), outs-Malloc x n)

pub depth-Free : (e : TExpr) → depth (Free e) ≡ 0
unfolding depth
depth-Free e = rw (fold_out-TStmt _ _ (Free e), outs-Free e)

pub depth-Lock : (op : LockOp) (e : TExpr) → depth (Lock op e) ≡ 0
unfolding depth
depth-Lock op e = rw (fold_out-TStmt _ _ (Lock op e), outs-Lock op e)

pub depth-Spawn : (f : Name) (e : TExpr) → depth (Spawn f e) ≡ 0
unfolding depth
depth-Spawn f e = rw (fold_out-TStmt _ _ (Spawn f e), outs-Spawn f e)

pub depth-Return : (e : Option TExpr) → depth (Return e) ≡ 0
unfolding depth
depth-Return e = rw (fold_out-TStmt _ _ (Return e), outs-Return e)

pub depth-Break : depth Break ≡ 0
unfolding depth
depth-Break = rw (fold_out-TStmt _ _ Break, outs-Break)

pub depth-Continue : depth Continue ≡ 0
unfolding depth
depth-Continue = rw (fold_out-TStmt _ _ Continue, outs-Continue)

pub depth-If : (c : Cond) (a b : List TStmt) → depth (If c a b) ≡ suc (max (depth_of a) (depth_of b))
unfolding depth
depth-If c a b = rw (fold_out-TStmt _ _ (If c a b), outs-If c a b)

pub depth-Loop : (s : List TStmt) → depth (Loop s) ≡ suc (depth_of s)
unfolding depth
depth-Loop s = rw (fold_out-TStmt _ _ (Loop s), outs-Loop s)

pub ruleset depths = (depth-Skip, depth-Set, depth-Load, depth-Store, depth-Call, depth-Malloc, depth-Free, depth-Lock, depth-Spawn, depth-If, depth-Loop, depth-Break, depth-Continue, depth-Return)

pub room_more :
    (list : List TStmt) (i : ℕ) (s : TStmt) (room more r : ℕ) → i < length list → s ≡ get_or list i s →
    max room (min 4294967295 (depth_of (drop i list))) ≡ min 4294967295 (depth_of list) → more ≡ max room r → r ≡ min 4294967295 (depth s) →
    max more (min 4294967295 (depth_of (drop (i + 1) list))) ≡ min 4294967295 (depth_of list)
room_more list i s room more r l e h m is =
    let k : max room (min 4294967295 (max (depth s) (depth_of (drop (i + 1) list)))) ≡ min 4294967295 (depth_of list) =
    subst (λ xs. max room (min 4294967295 (depth_of xs)) ≡ min 4294967295 (depth_of list)) (drop_at list i s l e) h in
    omega arith

-- a statement of a list is no deeper than the list
pub depth_at : (list : List TStmt) (i : ℕ) (s : TStmt) → i < length list → s ≡ get_or list i s → depth s ≤ depth_of list
depth_at [] i s l e = absurd (omega arith)
depth_at (x ∷ list) zero s l e = let h : depth s ≡ depth x = ap depth e in omega arith
depth_at (x ∷ list) (suc i) s l e = let h : depth s ≤ depth_of list = depth_at list i s (omega arith) e in omega arith

fit-append : (room i : ℕ) (ls : List Level) (l : Level) → FitFrom room i ls → i + length ls + depth_of l.list.now ≤ room → FitFrom room i (ls ++ l ∷ [])
fit-append room i [] l h k = ((omega arith), tt)
fit-append room i (x ∷ ls) l h k = (h.0, fit-append room (i + 1) ls l h.1 (omega arith))

fit-front : (room i : ℕ) (ls : List Level) (l : Level) → FitFrom room i (ls ++ l ∷ []) → FitFrom room i ls
fit-front room i [] l h = tt
fit-front room i (x ∷ ls) l h = (h.0, fit-front room (i + 1) ls l h.1)

fit-last : (room i : ℕ) (ls : List Level) (l : Level) → FitFrom room i (ls ++ l ∷ []) → i + length ls + depth_of l.list.now ≤ room
fit-last room i [] l h = let k = h.0 in omega arith
fit-last room i (x ∷ ls) l h = let k = fit-last room (i + 1) ls l h.1 in omega arith

-- the last list comes to stand on top
pub fit_popped :
    (room room' len : ℕ) (old rest : List Level) (l : Level) → old ≡ rest ++ l ∷ [] → room' ≡ room → len ≡ length rest → FitFrom room 0 old →
    FitFrom room' 0 rest × (len + depth_of l.list.now ≤ room')
fit_popped room room' len old rest l e r n h =
    let k : FitFrom room 0 (rest ++ l ∷ []) = subst (λ ls. FitFrom room 0 ls) e h in
    let d : 0 + length rest + depth_of l.list.now ≤ room = fit-last room 0 rest l k in
    (subst (λ x. FitFrom x 0 rest) (sym r) (fit-front room 0 rest l k), omega arith)

-- the list on top is put below another one
pub fit_pushed :
    (room room' len : ℕ) (old new : List Level) (l : Level) → new ≡ old ++ l ∷ [] → room' ≡ room → len ≡ length old → FitFrom room 0 old →
    len + depth_of l.list.now ≤ room → FitFrom room' 0 new
fit_pushed room room' len old new l e r n h k =
    let f : FitFrom room 0 (old ++ l ∷ []) = fit-append room 0 old l h (omega arith) in
    subst (λ x. FitFrom x 0 new) (sym r) (subst (λ ls. FitFrom room 0 ls) (sym e) f)

roomy-last : (ws : List Waiting) (w : Waiting) → AreRoomy (ws ++ w ∷ []) → IsRoomy w.frame × AreRoomy ws
roomy-last [] w h = (h.0, tt)
roomy-last (x ∷ ws) w h = let k = roomy-last ws w h.1 in (k.0, (h.0, k.1))

roomy-append : (ws : List Waiting) (w : Waiting) → AreRoomy ws → IsRoomy w.frame → AreRoomy (ws ++ w ∷ [])
roomy-append [] w h k = (k, tt)
roomy-append (x ∷ ws) w h k = (h.0, roomy-append ws w h.1 k)

-- the last frame that waits runs again
pub roomy_out : (old rest : List Waiting) (w : Waiting) → old ≡ rest ++ w ∷ [] → AreRoomy old → IsRoomy w.frame × AreRoomy rest
roomy_out old rest w e h = roomy-last rest w (subst AreRoomy e h)

-- a frame waits
pub roomy_in : (old new : List Waiting) (w : Waiting) → new ≡ old ++ w ∷ [] → AreRoomy old → IsRoomy w.frame → AreRoomy new
roomy_in old new w e h k = subst AreRoomy (sym e) (roomy-append old w h k)

pub ready_set : (xs : List (Option Thread)) (n : ℕ) (x : Option Thread) → AreReady xs → IsReadySlot x → AreReady (slice_set xs n x)
ready_set [] n x h k = tt
ready_set (y ∷ xs) zero x h k = (k, h.1)
ready_set (y ∷ xs) (suc n) x h k = (h.0, ready_set xs n x h.1 k)

pub ready_at : (xs : List (Option Thread)) (n : ℕ) (x : Option Thread) → n < length xs → x ≡ get_or xs n x → AreReady xs → IsReadySlot x
ready_at [] n x l e h = absurd (omega arith)
ready_at (y ∷ xs) zero x l e h = subst IsReadySlot (sym e) h.0
ready_at (y ∷ xs) (suc n) x l e h = ready_at xs n x (omega arith) e h.1

pub ready_add : (xs : List (Option Thread)) (x : Option Thread) → AreReady xs → IsReadySlot x → AreReady (xs ++ x ∷ [])
ready_add [] x h k = (k, tt)
ready_add (y ∷ xs) x h k = (h.0, ready_add xs x h.1 k)

room-of : (fns : List TypedFn) (i : ℕ) (f : TypedFn) (r : ℕ) → i < length fns → f ≡ get_or fns i f → r ≡ get_or (map function_depth fns) i r → r ≡ function_depth f
room-of [] i f r l e h = absurd (omega arith)
room-of (g ∷ fns) zero f r l e h = h ∙ ap function_depth (sym e)
room-of (g ∷ fns) (suc i) f r l e h = room-of fns i f r (omega arith) e h

-- the room of a function of a number
pub room_at :
    (fns : List TypedFn) (rooms : List ℕ) (i : ℕ) (f : TypedFn) (r : ℕ) → rooms ≡ map function_depth fns → i < length fns → f ≡ get_or fns i f → r ≡ get_or rooms i r →
    r ≡ function_depth f
room_at fns rooms i f r same l e h = room-of fns i f r l e (subst (λ xs. r ≡ get_or xs i r) same h)
