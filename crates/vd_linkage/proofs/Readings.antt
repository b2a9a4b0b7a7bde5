-- What is read is one thing.
use Rattle.std.proofs.Common.{◌≡◌, ◌≢◌, ◌↔◌, ℕ, Bool, IfOk, IsTrue, List, Option, None, Some, Result, Ok, Err, sym, subst}
use Rattle.std.specs.declared.alloc.AllocError.{AllocError}
use Rattle.std.specs.Option.{is_some}
use Rattle.vd_grammar.specs.declared.fault.ParseFault.{ParseFault}
use Rattle.vd_grammar.specs.declared.fault.ParseFault.TheVariants as fault
use Rattle.vd_outline.specs.declared.section.SectionKind.{SectionKind}
use Rattle.vd_linkage.specs.Only.{IsOnly}
use Rattle.vd_linkage.specs.Reading.{IsRead}

-- a reader of a text answers one thing, unless memory fails
abbrev pub IsExact : {A : Type 0} → (Result A ParseFault → Type 0) → Result A ParseFault → Type 0
IsExact {A = A} P answer = (other : Result A ParseFault) → P other → answer ≢ Err fault.Memory → other ≢ Err fault.Memory → answer ≡ other

ok_same : (A : Type 0) (a b : A) → ◌≡◌ {A = Result A ParseFault} (Ok a) (Ok b) → a ≡ b
ok_same A a b e = cc

ok_no_err : (A : Type 0) (a : A) (why : ParseFault) → ◌≡◌ {A = Result A ParseFault} (Ok a) (Err why) → ⊥
ok_no_err A a why e = cc

err_same : (A : Type 0) (a b : ParseFault) → ◌≡◌ {A = Result A ParseFault} (Err a) (Err b) → a ≡ b
err_same A a b e = cc

pub only_ok : {A : Type 0} (P : Result A ParseFault → Type 0) (x : A) → P (Ok x) → IsExact P (Ok x) → IsOnly (λ y. P (Ok y)) (Some x)
only_ok {A = A} P x is exact = (is, λ y p. sym (ok_same A x y (exact (Ok y) p (ok_no_err A x fault.Memory) (ok_no_err A y fault.Memory))))

pub not_ok : {A : Type 0} (P : Result A ParseFault → Type 0) (why : ParseFault) → why ≢ fault.Memory → IsExact P (Err why) → (x : A) → P (Ok x) → ⊥
not_ok {A = A} P why certain exact x p = ok_no_err A x why (sym (exact (Ok x) p (λ e. certain (err_same A why fault.Memory e)) (ok_no_err A x fault.Memory)))

-- whether there is one says whether something has the property
pub there_is : {A : Type 0} (P : A → Type 0) (found : Option A) (b : Bool) → IsOnly P found → b ≡ is_some found → (IsTrue b → (x : A) × P x) × (((x : A) × P x) → IsTrue b)
there_is P None b none e = (λ t. absurd (cc), λ p. absurd (none p.0 p.1))
there_is P (Some x) b only e = (λ t. (x, only.0), λ p. e)

-- the section is of that kind
pub read_as : (kind other : SectionKind) (text : List ℕ) (result : Result Bool AllocError) → kind ≡ other → IfOk result (λ read. IsTrue read ↔ IsRead other text) → IfOk result (λ read. IsTrue read ↔ IsRead kind text)
read_as kind other text result e h = subst (λ k. IfOk result (λ read. IsTrue read ↔ IsRead k text)) (sym e) h
