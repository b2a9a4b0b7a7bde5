-- The lines of a report.
use Rattle.std.specs.Prelude.{ℕ, Bool, List, [], ◌∷◌, ◌++◌, codes, Option, None, Some, map, flat_map, decimal}
use Rattle.std.specs.List.{list_all}
use Rattle.vd_check.specs.declared.report.Finding.{Finding}
use Rattle.vd_check.specs.declared.report.Failure.{Failure}
use Rattle.vd_store.specs.declared.work.Verdict.{Verdict}
use Rattle.vd_store.specs.declared.work.Verdict.TheVariants.{Accepted, Refused}
use Rattle.vd_store.specs.declared.work.WorkKind.{WorkKind}
use Rattle.vd_store.specs.declared.work.WorkKind.TheVariants.{Header, Body, Sub, Init}
use Rattle.vd_store.specs.declared.work.WorkName.{WorkName}
use Rattle.vd_store.specs.Verdicts.{is_accepted}

abbrev pub Bytes : Type 0
Bytes = List ℕ

abbrev pub kind_text : WorkKind → Bytes
kind_text Header = codes "header"
kind_text Body = codes "body"
kind_text Sub = codes "sub"
kind_text Init = codes "init"

-- a space and the word
abbrev pub spaced : Bytes → Bytes
spaced word = 32 ∷ word

abbrev pub function_text : Option Bytes → Bytes
function_text None = []
function_text (Some name) = spaced name

-- a work as it stands in a line
abbrev pub work_text : WorkName → Bytes
work_text w = kind_text w.kind ++ (spaced w.owner ++ function_text w.function)

-- what stands behind a work
abbrev pub verdict_text : Verdict → Bytes
verdict_text Accepted = codes " ok"
verdict_text (Refused at rule condition) = codes " refused" ++ flat_map (λ n. spaced (decimal n)) (at ∷ rule ∷ condition ∷ [])

abbrev pub finding_text : Finding → Bytes
finding_text f = work_text f.work ++ verdict_text f.verdict

abbrev pub are_accepted : List Finding → Bool
are_accepted = list_all (λ f. is_accepted f.verdict)

-- what stands behind a link: the condition that fails with its words, or that none fails
abbrev pub failure_text : Option Failure → Bytes
failure_text None = codes " ok"
failure_text (Some f) = codes " refused" ++ (spaced (decimal f.condition) ++ flat_map spaced f.words)

abbrev pub link_text : Bytes → Option Failure → Bytes
link_text link failure = codes "link" ++ (spaced link ++ failure_text failure)

-- a line for each work, and the line of the link
abbrev pub report_lines : List Finding → Bytes → Option Failure → List Bytes
report_lines findings link failure = map finding_text findings ++ link_text link failure ∷ []
