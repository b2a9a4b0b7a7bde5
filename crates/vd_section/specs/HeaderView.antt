-- The code's header as the definition's.
use Rattle.std.specs.Prelude.{ℕ, ◌+◌, ◌≤◌, length}
use Rattle.vd_section.specs.declared.header.Header.{Header}
use Rattle.vd_section.specs.declared.header.Header.TheVariants as h
use Rattle.vd_section.specs.HeaderLine.{HeaderCut, found, missing}

abbrev pub header_view : Header → HeaderCut
header_view (h.Found name place body) = found name.now place body.now
header_view (h.Missing place rest) = missing place rest.now

-- what stands behind ends within so many bytes
abbrev pub FitsIn : ℕ → HeaderCut → Type 0
FitsIn n (found name place body) = place + length body ≤ n
FitsIn n (missing place rest) = place + length rest ≤ n
