use Rattle.std.proofs.Common.{◌≡◌, ◌+◌, ◌++◌, ◌∷◌, [], ◌∙◌, ap, sym, arith, length}
use Rattle.vd_commands.specs.Limits.{Joins}
use Rattle.vd_commands.proofs.Gathering.{gathered_more, over_bytes, over_names}
use Rattle.vd_commands.proofs.ReadLaws.{on_ok}
use Rattle.vd_commands.proofs.inputs.Gathered.add.Goals as goal

pub returns-then-bytes-gt-BYTE_LIMIT-clause-stops : goal.returns-then-bytes-gt-BYTE_LIMIT-clause-stops
returns-then-bytes-gt-BYTE_LIMIT-clause-stops c =
    over_bytes c.args.self.now.texts c.args.text c.args.self.now.bytes c.requires.gathered.bytes (omega (arith, c.if-bytes-gt-BYTE_LIMIT.true, c.len.ensures))

pub returns-then-len-gt-NAME_LIMIT-clause-stops : goal.returns-then-len-gt-NAME_LIMIT-clause-stops
returns-then-len-gt-NAME_LIMIT-clause-stops c =
    let joins : Joins c.args.self.now.names.keys c.args.text c.add_name.new.names.keys = on_ok c.add_name.result _ (sym c.is_err.ensures.value ∙ c.if-is_err.false) c.add_name.ensures in
    over_names c.args.self.now.texts c.args.text c.args.self.now.bytes c.args.self.now.names.keys c.add_name.new.names.keys c.requires.gathered.bytes (omega (arith, c.if-bytes-gt-BYTE_LIMIT.false, c.len.ensures))
    c.requires.gathered.names joins (omega (arith, c.if-len-gt-NAME_LIMIT.true, c.len-2.ensures.len))

pub returns-clause-gathered : goal.returns-clause-gathered
returns-clause-gathered c =
    let joins : Joins c.args.self.now.names.keys c.args.text c.add_name.new.names.keys = on_ok c.add_name.result _ (sym c.is_err.ensures.value ∙ c.if-is_err.false) c.add_name.ensures in
    let pushed : c.push.new.self ≡ c.args.self.now.texts ++ c.args.text ∷ [] = on_ok c.push.result _ (sym c.is_err-2.ensures.value ∙ c.if-is_err-2.false) c.push.ensures.ok in
    let length_is : c.len.result ≡ length c.args.text = c.len.ensures in
    gathered_more c.args.self.now (record { texts = c.push.new.self; names = c.add_name.new.names; bytes = c.args.self.now.bytes + c.len.result }) c.args.text c.requires.gathered joins pushed
    (ap (λ n. c.args.self.now.bytes + n) length_is) c.if-bytes-gt-BYTE_LIMIT.false (omega (arith, c.if-len-gt-NAME_LIMIT.false, c.len-2.ensures.len))
