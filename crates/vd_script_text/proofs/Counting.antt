-- The numbers of steps, by a step's node.
use Rattle.std.proofs.Common.{ℕ, ◌≡◌, List, [], ◌∷◌, ◌++◌, map, sym, ◌∙◌, ap, append_assoc}
use Rattle.std.proofs.lemmas.List.{append-nil}
use Rattle.vd_logic.specs.declared.assertion.Assertion.{Assertion}
use Rattle.vd_logic.specs.declared.assertion.Prop.{Prop}
use Rattle.vd_logic.specs.declared.step.Certificate.{Certificate}
use Rattle.vd_logic.specs.declared.step.Block.{Block, out-Block, roll-Block, fold_out-Block}
use Rattle.vd_logic.specs.declared.step.Step.{Step, out-Step, roll-Step, fold_out-Step}
use Rattle.vd_logic.specs.declared.step.StepNode.{StepNode, StepNode-F, out-StepNode, roll-StepNode, out-roll-StepNode, ind-StepNode, fold_out-StepNode, map-StepNode}
use Rattle.vd_logic.specs.declared.step.StepNode.TheOpen as open_
use Rattle.vd_logic.specs.declared.step.StepNode.TheVariants as s
use Rattle.vd_logic.specs.declared.step.StepNode.TheVariants.{outs-If, outs-While, outs-Block, outs-Pose, outs-Malloc, outs-Unfold, outs-Split}
use Rattle.vd_logic.specs.declared.step.StepNode.TheVariants.{rolls-Skip, rolls-If, rolls-While, rolls-Block, rolls-Pose, rolls-Malloc, rolls-Unfold, rolls-Split, rolls-Set, rolls-Load, rolls-Store, rolls-Break, rolls-Continue, rolls-Return, rolls-Fall, rolls-Call, rolls-Free, rolls-MakeLock, rolls-Acquire, rolls-Release, rolls-FreeLock, rolls-Spawn, rolls-Fold, rolls-Absurd, rolls-Have, rolls-Law, rolls-Subst, rolls-Rewrite, rolls-Cut, rolls-Glue, rolls-Share, rolls-Unshare, rolls-Agree, rolls-Bounds, rolls-Apart, rolls-Forget, rolls-Meet, rolls-Name}
use Rattle.vd_logic_grammar.specs.Numbers.{next_number, in_order, two_blocks, one_block, numbered_node_layer, numbered_step_layer, numbered_block_layer, numbered_node, numbered_step, numbered_block, numbered_in_order}

abbrev counted : StepNode-F StepNode Block Step → ℕ → StepNode × ℕ
counted l = numbered_node_layer (map-StepNode StepNode Block Step (ℕ → StepNode × ℕ) (ℕ → Block × ℕ) (ℕ → Step × ℕ) numbered_node numbered_block numbered_step l)

pub node_is : (x : StepNode) → numbered_node x ≡ counted (out-StepNode x)
unfolding numbered_node numbered_block numbered_step
node_is x = fold_out-StepNode (ℕ → StepNode × ℕ) (ℕ → Block × ℕ) (ℕ → Step × ℕ) numbered_node_layer numbered_block_layer numbered_step_layer x

pub step_is : (x : Step) (n : ℕ) → numbered_step x n ≡ (roll-Step (record { number = n; node = (numbered_node (out-Step x).node (next_number n)).0 }), (numbered_node (out-Step x).node (next_number n)).1)
unfolding numbered_node numbered_block numbered_step
step_is x n = ap (λ f. f n) (fold_out-Step (ℕ → StepNode × ℕ) (ℕ → Block × ℕ) (ℕ → Step × ℕ) numbered_node_layer numbered_block_layer numbered_step_layer x)

pub block_is : (b : Block) (n : ℕ) → numbered_block b n ≡ (roll-Block (record { names = (out-Block b).names; steps = (numbered_in_order (out-Block b).steps n).0 }), (numbered_in_order (out-Block b).steps n).1)
unfolding numbered_node numbered_block numbered_step
block_is b n = ap (λ f. f n) (fold_out-Block (ℕ → StepNode × ℕ) (ℕ → Block × ℕ) (ℕ → Step × ℕ) numbered_node_layer numbered_block_layer numbered_step_layer b)

-- ---- one after another

module _ {A : Type 0} where
  -- what has its numbers, behind what has them already
  abbrev pub behind : List A → List A × ℕ → List A × ℕ
  behind front p = (front ++ p.0, p.1)

  pub behind_next : (front : List A) (f : ℕ → A × ℕ) (fs : List (ℕ → A × ℕ)) (n m : ℕ) (x : A) → (x, m) ≡ f n → behind front (in_order (f ∷ fs) n) ≡ behind (front ++ x ∷ []) (in_order fs m)
  behind_next front f fs n m x h =
      ap (λ p. behind front (p.0 ∷ (in_order fs p.1).0, (in_order fs p.1).1)) (sym h) ∙ ap (λ xs. (xs, (in_order fs m).1)) (sym (append_assoc front (x ∷ []) (in_order fs m).0))

  pub behind_end : (front : List A) (n : ℕ) → behind front (in_order [] n) ≡ (front, n)
  behind_end front n = ap (λ xs. (xs, n)) (append-nil front)

-- ---- nodes with blocks

two_are : (node : Block → Block → StepNode) (f g : ℕ → Block × ℕ) (n m last : ℕ) (a b : Block) → (a, m) ≡ f n → (b, last) ≡ g m → (node a b, last) ≡ two_blocks node f g n
two_are node f g n m last a b h e = sym (ap (λ p. (node p.0 (g p.1).0, (g p.1).1)) (sym h) ∙ ap (λ q. (node a q.0, q.1)) (sym e))

one_is : (node : Block → StepNode) (f : ℕ → Block × ℕ) (n m : ℕ) (a : Block) → (a, m) ≡ f n → (node a, m) ≡ one_block node f n
one_is node f n m a h = ap (λ p. (node p.0, p.1)) h

by_layer : (x : StepNode) (l : StepNode-F StepNode Block Step) (n : ℕ) → out-StepNode x ≡ l → counted l n ≡ numbered_node x n
by_layer x l n h = sym (ap (λ f. f n) (node_is x ∙ ap counted h))

module _ (n m last : ℕ) (a b c d : Block) (h : (c, m) ≡ numbered_block a n) (e : (d, last) ≡ numbered_block b m) where
  pub if_numbered : (xs : List ℕ) (cs : List Certificate) → (s.If xs cs c d, last) ≡ numbered_node (s.If xs cs a b) n
  if_numbered xs cs = two_are (s.If xs cs) (numbered_block a) (numbered_block b) n m last c d h e ∙ by_layer (s.If xs cs a b) (open_.If xs cs a b) n (outs-If xs cs a b)

  pub while_numbered : (inv q : Assertion) (xs : List (List ℕ)) → (s.While inv q xs c d, last) ≡ numbered_node (s.While inv q xs a b) n
  while_numbered inv q xs = two_are (s.While inv q xs) (numbered_block a) (numbered_block b) n m last c d h e ∙ by_layer (s.While inv q xs a b) (open_.While inv q xs a b) n (outs-While inv q xs a b)

  pub malloc_numbered : (x : List ℕ) → (s.Malloc x c d, last) ≡ numbered_node (s.Malloc x a b) n
  malloc_numbered x = two_are (s.Malloc x) (numbered_block a) (numbered_block b) n m last c d h e ∙ by_layer (s.Malloc x a b) (open_.Malloc x a b) n (outs-Malloc x a b)

  pub split_numbered : (p : Prop) → (s.Split p c d, last) ≡ numbered_node (s.Split p a b) n
  split_numbered p = two_are (s.Split p) (numbered_block a) (numbered_block b) n m last c d h e ∙ by_layer (s.Split p a b) (open_.Split p a b) n (outs-Split p a b)

module _ (n m : ℕ) (a c : Block) (h : (c, m) ≡ numbered_block a n) where
  pub block_numbered : (k : ℕ) (q : Assertion) (xs : List (List ℕ)) → (s.Block k q xs c, m) ≡ numbered_node (s.Block k q xs a) n
  block_numbered k q xs = one_is (s.Block k q xs) (numbered_block a) n m c h ∙ by_layer (s.Block k q xs a) (open_.Block k q xs a) n (outs-Block k q xs a)

  pub pose_numbered : (q : Assertion) (xs : List (List ℕ)) → (s.Pose q xs c, m) ≡ numbered_node (s.Pose q xs a) n
  pose_numbered q xs = one_is (s.Pose q xs) (numbered_block a) n m c h ∙ by_layer (s.Pose q xs a) (open_.Pose q xs a) n (outs-Pose q xs a)

pub unfold_numbered : (n m : ℕ) (bs found : List Block) (k : ℕ) → (found, m) ≡ in_order (map numbered_block bs) n → (s.Unfold k found, m) ≡ numbered_node (s.Unfold k bs) n
unfold_numbered n m bs found k h = ap (λ p. (s.Unfold k p.0, p.1)) h ∙ by_layer (s.Unfold k bs) (open_.Unfold k bs) n (outs-Unfold k bs)

-- ---- nodes without

-- the node has no block
pub record IsPlain (x : StepNode) : Type 0 where
  pub no_if : (xs : List ℕ) (cs : List Certificate) (a b : Block) → x ≡ s.If xs cs a b → ⊥
  pub no_while : (inv q : Assertion) (xs : List (List ℕ)) (a b : Block) → x ≡ s.While inv q xs a b → ⊥
  pub no_block : (k : ℕ) (q : Assertion) (xs : List (List ℕ)) (a : Block) → x ≡ s.Block k q xs a → ⊥
  pub no_pose : (q : Assertion) (xs : List (List ℕ)) (a : Block) → x ≡ s.Pose q xs a → ⊥
  pub no_malloc : (y : List ℕ) (a b : Block) → x ≡ s.Malloc y a b → ⊥
  pub no_unfold : (k : ℕ) (bs : List Block) → x ≡ s.Unfold k bs → ⊥
  pub no_split : (p : Prop) (a b : Block) → x ≡ s.Split p a b → ⊥

roll_plain : (l : StepNode-F StepNode Block Step) (n : ℕ) → IsPlain (roll-StepNode l) → counted l n ≡ (roll-StepNode l, n)
roll_plain open_.Skip n h = ap (λ y. (y, n)) (sym rolls-Skip)
roll_plain (open_.If xs cs a b) n h = absurd (h.no_if xs cs a b (rolls-If xs cs a b))
roll_plain (open_.While inv q xs a b) n h = absurd (h.no_while inv q xs a b (rolls-While inv q xs a b))
roll_plain (open_.Block k q xs a) n h = absurd (h.no_block k q xs a (rolls-Block k q xs a))
roll_plain (open_.Pose q xs a) n h = absurd (h.no_pose q xs a (rolls-Pose q xs a))
roll_plain (open_.Malloc x a b) n h = absurd (h.no_malloc x a b (rolls-Malloc x a b))
roll_plain (open_.Unfold k bs) n h = absurd (h.no_unfold k bs (rolls-Unfold k bs))
roll_plain (open_.Split p a b) n h = absurd (h.no_split p a b (rolls-Split p a b))
roll_plain (open_.Set xs cs) n h = ap (λ y. (y, n)) (sym (rolls-Set xs cs))
roll_plain (open_.Load k xs cs) n h = ap (λ y. (y, n)) (sym (rolls-Load k xs cs))
roll_plain (open_.Store k xs cs) n h = ap (λ y. (y, n)) (sym (rolls-Store k xs cs))
roll_plain (open_.Break ts cs) n h = ap (λ y. (y, n)) (sym (rolls-Break ts cs))
roll_plain (open_.Continue ts cs) n h = ap (λ y. (y, n)) (sym (rolls-Continue ts cs))
roll_plain (open_.Return ts xs cs) n h = ap (λ y. (y, n)) (sym (rolls-Return ts xs cs))
roll_plain (open_.Fall ts cs) n h = ap (λ y. (y, n)) (sym (rolls-Fall ts cs))
roll_plain (open_.Call ts xs cs ns) n h = ap (λ y. (y, n)) (sym (rolls-Call ts xs cs ns))
roll_plain (open_.Free k m cs) n h = ap (λ y. (y, n)) (sym (rolls-Free k m cs))
roll_plain (open_.MakeLock k l xs cs) n h = ap (λ y. (y, n)) (sym (rolls-MakeLock k l xs cs))
roll_plain (open_.Acquire k xs) n h = ap (λ y. (y, n)) (sym (rolls-Acquire k xs))
roll_plain (open_.Release k m xs) n h = ap (λ y. (y, n)) (sym (rolls-Release k m xs))
roll_plain (open_.FreeLock k m xs cs) n h = ap (λ y. (y, n)) (sym (rolls-FreeLock k m xs cs))
roll_plain (open_.Spawn ts xs cs) n h = ap (λ y. (y, n)) (sym (rolls-Spawn ts xs cs))
roll_plain (open_.Fold x k us ts cs) n h = ap (λ y. (y, n)) (sym (rolls-Fold x k us ts cs))
roll_plain (open_.Absurd cs) n h = ap (λ y. (y, n)) (sym (rolls-Absurd cs))
roll_plain (open_.Have p cs) n h = ap (λ y. (y, n)) (sym (rolls-Have p cs))
roll_plain (open_.Law x ts cs) n h = ap (λ y. (y, n)) (sym (rolls-Law x ts cs))
roll_plain (open_.Subst x) n h = ap (λ y. (y, n)) (sym (rolls-Subst x))
roll_plain (open_.Rewrite back k o) n h = ap (λ y. (y, n)) (sym (rolls-Rewrite back k o))
roll_plain (open_.Cut k a b) n h = ap (λ y. (y, n)) (sym (rolls-Cut k a b))
roll_plain (open_.Glue k m) n h = ap (λ y. (y, n)) (sym (rolls-Glue k m))
roll_plain (open_.Share k t cs) n h = ap (λ y. (y, n)) (sym (rolls-Share k t cs))
roll_plain (open_.Unshare k m cs) n h = ap (λ y. (y, n)) (sym (rolls-Unshare k m cs))
roll_plain (open_.Agree k m cs) n h = ap (λ y. (y, n)) (sym (rolls-Agree k m cs))
roll_plain (open_.Bounds k m cs) n h = ap (λ y. (y, n)) (sym (rolls-Bounds k m cs))
roll_plain (open_.Apart k m cs) n h = ap (λ y. (y, n)) (sym (rolls-Apart k m cs))
roll_plain (open_.Forget x) n h = ap (λ y. (y, n)) (sym (rolls-Forget x))
roll_plain (open_.Meet ts cs) n h = ap (λ y. (y, n)) (sym (rolls-Meet ts cs))
roll_plain (open_.Name x t) n h = ap (λ y. (y, n)) (sym (rolls-Name x t))

abbrev Numbers : StepNode → Type 0
Numbers x = IsPlain x → (n : ℕ) → (x, n) ≡ numbered_node x n

rolled : (l : StepNode-F StepNode Block Step) → Numbers (roll-StepNode l)
rolled l h n = sym (ap (λ f. f n) (node_is (roll-StepNode l) ∙ ap counted (out-roll-StepNode l)) ∙ roll_plain l n h)

pub plain_numbered : (x : StepNode) → IsPlain x → (n : ℕ) → (x, n) ≡ numbered_node x n
plain_numbered x = ind-StepNode Numbers (λ b. Unit {0}) (λ y. Unit {0}) (λ l y is. rolled l) (λ l y is. tt) (λ l y is. tt) x

-- ---- steps and blocks

pub step_numbered : (x : Step) (node : StepNode) (n m : ℕ) → (node, m) ≡ numbered_node (out-Step x).node (next_number n) → (roll-Step (record { number = n; node = node }), m) ≡ numbered_step x n
step_numbered x node n m h = ap (λ p. (roll-Step (record { number = n; node = p.0 }), p.1)) h ∙ sym (step_is x n)

pub block_made : (b : Block) (steps : List Step) (n m : ℕ) → (steps, m) ≡ numbered_in_order (out-Block b).steps n → (roll-Block (record { names = (out-Block b).names; steps = steps }), m) ≡ numbered_block b n
block_made b steps n m h = ap (λ p. (roll-Block (record { names = (out-Block b).names; steps = p.0 }), p.1)) h ∙ sym (block_is b n)
