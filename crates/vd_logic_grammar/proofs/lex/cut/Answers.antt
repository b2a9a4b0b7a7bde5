use Rattle.vd_logic_grammar.proofs.Cuts.{kept_start, kept_next, kept_deep, kept_text, kept_unknown}
use Rattle.vd_logic_grammar.proofs.lex.cut.Goals as goal

pub tokens-init : goal.tokens-init
tokens-init c = rw c.new-found.ensures.items (kept_start c.args.tokens.now c.new-depth.result c.new-depth.ensures.value c.new-depth.ensures.counted)

pub returns-then-depth-ge-LIMIT : goal.returns-then-depth-ge-LIMIT
returns-then-depth-ge-LIMIT c = kept_deep c.args.tokens.now c.tokens.found.items c.tokens.token-index c.tokens.depth c.count.new.self _ c.args.end
    c.tokens.invariant c.tokens-test.true c.in_ok-count.ensures.value c.in_ok-count.ensures.counted c.if-depth-ge-LIMIT.true

pub tokens-preserved : goal.tokens-preserved
tokens-preserved c = kept_next c.args.tokens.now c.tokens.found.items c.push.new.self.items c.tokens.token-index c.tokens.depth c.count.new.self _
    c.tokens.invariant c.tokens-test.true c.in_ok-count.ensures.value c.in_ok-count.ensures.counted c.if-depth-ge-LIMIT.false c.in_ok-push.ensures.items

pub returns-in-Text : goal.returns-in-Text
returns-in-Text c = kept_text c.args.tokens.now c.tokens.found.items c.tokens.token-index c.in-Text.at c.tokens.depth c.args.end c.tokens.invariant c.tokens-test.false c.in-Text.is

pub returns : goal.returns
returns c = kept_unknown c.args.tokens.now c.tokens.found.items c.tokens.token-index c.in-Unknown.at c.tokens.depth c.args.end c.tokens.invariant c.tokens-test.false c.in-Unknown.is
