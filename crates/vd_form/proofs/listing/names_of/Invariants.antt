use Rattle.std.proofs.Common.{◌≡◌, map, take}
use Rattle.vd_form.proofs.listing.names_of.Given as goal

abbrev pub invariant-loop-mention : goal.invariant-loop-mention
invariant-loop-mention l = l.names ≡ map (λ m. m.name) (take l.mention-index l.mentions)
