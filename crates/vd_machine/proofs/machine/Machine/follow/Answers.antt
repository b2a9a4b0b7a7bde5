use Rattle.std.proofs.Common.{rules, ◌<◌, ◌≤◌, length, arith}
use Rattle.vd_machine.proofs.Followed.{followed_if}
use Rattle.vd_machine.proofs.machine.Machine.follow.Goals as goal

pub returns-in_ok-followed-in-Some : goal.returns-in_ok-followed-in-Some
returns-in_ok-followed-in-Some c =
    let s = c.args.self.now.system in
    let v = c.args.watch in
    let n = c.args.thread in
    let l : n < length v.touches.items = search rules in
    let known = c.without.ensures.known in
    let least : v.blocks ≤ c.without.result.blocks = let h = c.more_blocks-known.ensures.least in omega arith in
    let most : c.without.result.blocks ≤ length s.memory = let h = c.more_blocks-known.ensures.most in omega arith in
    followed_if c.args.self.now.program.globals s v c.without.result c.in_ok-joined.joined c.in_ok-followed-in-Some.followed c.in-Some.watch n c.requires l c.without.ensures.added least most
    c.in_ok-joined.ensures c.in-Some.is c.in_ok-followed-in-Some.ensures
