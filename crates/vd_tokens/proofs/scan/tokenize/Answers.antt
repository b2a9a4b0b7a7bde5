use Rattle.std.proofs.Common.{refl, arith}
use Rattle.vd_tokens.specs.Lexeme.{lexemes_of}
use Rattle.vd_tokens.specs.OneText.{one_tokenization}
use Rattle.vd_tokens.proofs.Scanning.{scanned_gap, scanned_token, scanned_unknown, scanned_end, pushed}
use Rattle.vd_tokens.proofs.scan.tokenize.Goals as goal

pub tokens-preserved-in-Gap : goal.tokens-preserved-in-Gap
tokens-preserved-in-Gap c = scanned_gap c.args.alphabet c.args.place c.tokens.at c.in-Gap.n c.args.text.now c.tokens.left.now c.split_at.result.1.now c.split_at-in-Gap.result.1.now (lexemes_of c.tokens.tokens.items)
    c.tokens.invariant (omega arith) c.split_at.ensures.back c.in-Gap.ensures.head c.in-Gap.ensures.within c.split_at-in-Gap.ensures.back

pub tokens-preserved : goal.tokens-preserved
tokens-preserved c = rw (pushed c.tokens.tokens.items c.push.new.self.items _ _ c.in_ok-push-in-Token.ensures.items refl)
    (scanned_token c.args.alphabet c.args.place c.tokens.at c.in-Token.n c.in-Token.kind c.args.text.now c.tokens.left.now c.split_at.result.1.now c.split_at-in-Token.result.1.now c.split_at-in-Token.result.0.now (lexemes_of c.tokens.tokens.items)
    c.tokens.invariant (omega arith) c.split_at.ensures.back c.in-Token.ensures.head c.in-Token.ensures.within c.split_at-in-Token.ensures.back c.split_at-in-Token.ensures.front)

pub returns-in-Unknown-clause-tokens : goal.returns-in-Unknown-clause-tokens
returns-in-Unknown-clause-tokens c = scanned_unknown c.args.alphabet c.args.place c.tokens.at c.args.text.now c.tokens.left.now c.split_at.result.1.now (lexemes_of c.tokens.tokens.items)
    c.tokens.invariant (omega arith) c.split_at.ensures.back c.in-Unknown.ensures.head

pub returns-in-Unknown-clause-exact : goal.returns-in-Unknown-clause-exact
returns-in-Unknown-clause-exact c = λ ts end d. one_tokenization c.args.alphabet (returns-in-Unknown-clause-tokens c) d

pub returns-clause-tokens : goal.returns-clause-tokens
returns-clause-tokens c = scanned_end c.args.alphabet c.args.place c.tokens.at c.args.text.now c.tokens.left.now (lexemes_of c.tokens.tokens.items) c.tokens.invariant (grind arith)

pub returns-clause-exact : goal.returns-clause-exact
returns-clause-exact c = λ ts end d. one_tokenization c.args.alphabet (returns-clause-tokens c) d
