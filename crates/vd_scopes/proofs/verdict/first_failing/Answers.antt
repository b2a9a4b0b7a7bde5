use Rattle.std.proofs.Common.{◌≡◌, ℕ, List, Option, None}
use Rattle.vd_heads.specs.declared.content.Part.{Part}
use Rattle.vd_heads.specs.Least.{IsLeastOrNone, IsPlaceOf}
use Rattle.vd_known.specs.Known.{IsUnknown}
use Rattle.vd_known.specs.Twice.{FailsTwice}
use Rattle.vd_scopes.specs.Failing.{IsUnread}
use Rattle.vd_scopes.proofs.Judging.{HoldBelow, none_below, next_holds, found_first, not_twice, all_hold}
use Rattle.vd_scopes.proofs.Meaning.{is_unambiguous}
use Rattle.vd_scopes.proofs.verdict.first_failing.Goals as goal

-- the first three conditions hold
three_hold : (parts : List Part) (own : ℕ) (unread unknown twice : Option ℕ) → IsLeastOrNone (IsUnread parts own) unread → unread ≡ None → IsLeastOrNone (IsPlaceOf parts own (IsUnknown parts own)) unknown → unknown ≡ None
    → IsLeastOrNone (FailsTwice parts own) twice → twice ≡ None → HoldBelow parts own 4
three_hold parts own unread unknown twice a d b e c f = next_holds parts own 3 (next_holds parts own 2 (next_holds parts own 1 (none_below parts own) unread a d) unknown b e) twice c f

pub returns-in-Some : goal.returns-in-Some
returns-in-Some c =
    let v = c.args.view.now in
    found_first v.parts.now v.own 1 c.in-Some.place (none_below v.parts.now v.own) c.first_unread.result c.first_unread.ensures c.in-Some.is

pub returns-in-Some-2 : goal.returns-in-Some-2
returns-in-Some-2 c =
    let v = c.args.view.now in
    found_first v.parts.now v.own 2 c.in-Some-2.place (next_holds v.parts.now v.own 1 (none_below v.parts.now v.own) c.first_unread.result c.first_unread.ensures c.in_default.is) c.in_ok-place.field-0 c.in_ok-place.ensures c.in-Some-2.is

pub returns-in-Some-3 : goal.returns-in-Some-3
returns-in-Some-3 c =
    let v = c.args.view.now in
    found_first v.parts.now v.own 3 c.in-Some-3.place
    (next_holds v.parts.now v.own 2 (next_holds v.parts.now v.own 1 (none_below v.parts.now v.own) c.first_unread.result c.first_unread.ensures c.in_default.is) c.in_ok-place.field-0 c.in_ok-place.ensures c.in_default-2.is)
    c.in_ok-place-2.field-0 c.in_ok-place-2.ensures c.in-Some-3.is

pub of-requires-clause-one : goal.of-requires-clause-one
of-requires-clause-one c =
    let v = c.args.view.now in
    is_unambiguous v.parts.now v.own
    (not_twice v.parts.now v.own (three_hold v.parts.now v.own c.first_unread.result c.in_ok-place.field-0 c.in_ok-place-2.field-0 c.first_unread.ensures c.in_default.is c.in_ok-place.ensures c.in_default-2.is c.in_ok-place-2.ensures c.in_default-3.is))

pub first_disagreement-requires-clause-one : goal.first_disagreement-requires-clause-one
first_disagreement-requires-clause-one c =
    let v = c.args.view.now in
    is_unambiguous v.parts.now v.own
    (not_twice v.parts.now v.own (three_hold v.parts.now v.own c.first_unread.result c.in_ok-place.field-0 c.in_ok-place-2.field-0 c.first_unread.ensures c.in_default.is c.in_ok-place.ensures c.in_default-2.is c.in_ok-place-2.ensures c.in_default-3.is))

pub returns-in-Some-4 : goal.returns-in-Some-4
returns-in-Some-4 c =
    let v = c.args.view.now in
    found_first v.parts.now v.own 4 c.in-Some-4.place
    (three_hold v.parts.now v.own c.first_unread.result c.in_ok-place.field-0 c.in_ok-place-2.field-0 c.first_unread.ensures c.in_default.is c.in_ok-place.ensures c.in_default-2.is c.in_ok-place-2.ensures c.in_default-3.is)
    c.in_ok-place-3.field-0 c.in_ok-place-3.ensures c.in-Some-4.is

pub first_large-requires-clause-one : goal.first_large-requires-clause-one
first_large-requires-clause-one c =
    let v = c.args.view.now in
    is_unambiguous v.parts.now v.own
    (not_twice v.parts.now v.own (three_hold v.parts.now v.own c.first_unread.result c.in_ok-place.field-0 c.in_ok-place-2.field-0 c.first_unread.ensures c.in_default.is c.in_ok-place.ensures c.in_default-2.is c.in_ok-place-2.ensures c.in_default-3.is))

pub returns-in-Some-5 : goal.returns-in-Some-5
returns-in-Some-5 c =
    let v = c.args.view.now in
    found_first v.parts.now v.own 5 c.in-Some-5.place
    (next_holds v.parts.now v.own 4
    (three_hold v.parts.now v.own c.first_unread.result c.in_ok-place.field-0 c.in_ok-place-2.field-0 c.first_unread.ensures c.in_default.is c.in_ok-place.ensures c.in_default-2.is c.in_ok-place-2.ensures c.in_default-3.is)
    c.in_ok-place-3.field-0 c.in_ok-place-3.ensures c.in_default-4.is)
    c.in_ok-place-4.field-0 c.in_ok-place-4.ensures c.in-Some-5.is

pub returns : goal.returns
returns c =
    let v = c.args.view.now in
    all_hold v.parts.now v.own
    (next_holds v.parts.now v.own 5
    (next_holds v.parts.now v.own 4
    (three_hold v.parts.now v.own c.first_unread.result c.in_ok-place.field-0 c.in_ok-place-2.field-0 c.first_unread.ensures c.in_default.is c.in_ok-place.ensures c.in_default-2.is c.in_ok-place-2.ensures c.in_default-3.is)
    c.in_ok-place-3.field-0 c.in_ok-place-3.ensures c.in_default-4.is)
    c.in_ok-place-4.field-0 c.in_ok-place-4.ensures c.in-None.is)
