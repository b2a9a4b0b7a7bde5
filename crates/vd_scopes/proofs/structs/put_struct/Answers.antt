use Rattle.std.proofs.Common.{◌≡◌, ◌≢◌, Bool, false, None}
use Rattle.std.proofs.lemmas.Result.{IfOk-weaker}
use Rattle.vd_base.specs.Layout.{refusal}
use Rattle.vd_scopes.specs.Structs.{IsTried}
use Rattle.vd_scopes.proofs.Filling.{tried_refused}
use Rattle.vd_scopes.proofs.structs.put_struct.Goals as goal

pub returns-in-Err : goal.returns-in-Err
returns-in-Err c =
    let old = c.args.structs.now in
    let why = refusal old c.in_ok-name.name c.in_ok-fields.fields in
    IfOk-weaker c.not_taken.result (λ (taken : Bool). (taken ≡ false) × (why ≢ None)) (IsTried old c.args.known c.add.new.self)
    (tried_refused old c.args.known c.add.new.self c.in_ok-name.name c.in_ok-fields.fields c.in_ok-name.ensures c.in_ok-fields.ensures c.in-Err.ensures.err) (c.not_taken.ensures why c.in-Err.ensures.cause)
