use Rattle.vd_cparse.proofs.Cuts.{kept_next, kept_deep, kept_text, kept_unknown}
use Rattle.vd_cparse.proofs.lex.cut.Goals as goal

pub returns-then-next-ge-LIMIT : goal.returns-then-next-ge-LIMIT
returns-then-next-ge-LIMIT c = kept_deep c.args.tokens.now c.tokens.found.items c.tokens.token-index c.tokens.depth c.after-next.result _ c.args.end
    c.tokens.invariant c.tokens-test.true c.after-next.ensures.value c.if-next-ge-LIMIT.true

pub tokens-preserved : goal.tokens-preserved
tokens-preserved c = kept_next c.args.tokens.now c.tokens.found.items c.push.new.self.items c.tokens.token-index c.tokens.depth c.after-next.result _
    c.tokens.invariant c.tokens-test.true c.after-next.ensures.value c.if-next-ge-LIMIT.false c.in_ok-push.ensures.items

pub returns-in-Text : goal.returns-in-Text
returns-in-Text c = kept_text c.args.tokens.now c.tokens.found.items c.tokens.token-index c.in-Text.at c.tokens.depth c.args.end c.tokens.invariant c.tokens-test.false c.in-Text.is

pub returns-in-Unknown : goal.returns-in-Unknown
returns-in-Unknown c = kept_unknown c.args.tokens.now c.tokens.found.items c.tokens.token-index c.in-Unknown.at c.tokens.depth c.args.end c.tokens.invariant c.tokens-test.false c.in-Unknown.is
