use Rattle.std.proofs.Common.{◌≡◌, drop, map, string_bytes}
use Rattle.std.specs.List.{list_all}
use Rattle.vd_commands.specs.Command.{is_filled}
use Rattle.vd_commands.proofs.command.all_filled.Given as goal

abbrev pub invariant-loop-word : goal.invariant-loop-word
invariant-loop-word l = list_all is_filled (map string_bytes (drop l.word-index l.words)) ≡ list_all is_filled (map string_bytes l.words)
