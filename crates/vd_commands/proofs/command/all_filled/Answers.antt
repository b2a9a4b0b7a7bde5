use Rattle.std.proofs.Common.{◌≡◌, true, sym, ◌∙◌, ap, string_bytes, ◌&&◌, ◌+◌, drop, map}
use Rattle.std.specs.List.{list_all}
use Rattle.vd_commands.specs.Command.{is_filled}
use Rattle.vd_commands.proofs.Words.{all_step}
use Rattle.vd_commands.proofs.command.all_filled.Goals as goal

pub loop-word-preserved : goal.loop-word-preserved
loop-word-preserved c =
    let filled : is_filled (string_bytes c.word-item.result) ≡ true = cc in
    sym (all_step is_filled string_bytes c.args.words.now c.loop-word.word-index c.word-item.result c.loop-word-test.true c.word-item.is
    ∙ ap (λ b. b && list_all is_filled (map string_bytes (drop (c.loop-word.word-index + 1) c.args.words.now))) filled) ∙ c.loop-word.invariant
