use Rattle.std.proofs.Common.{rules, codes, Err, refl}
use Rattle.vd_tokens.specs.declared.alphabet.Alphabet.TheVariants.{C}
use Rattle.vd_cgrammar.specs.Grammar.{FnSection}
use Rattle.vd_cparse.specs.Section.{AnswersFn}
use Rattle.vd_cparse.proofs.Texts.{exact}
use Rattle.vd_cparse.proofs.section.parse_section.Goals as goal

pub returns-in-Ok-clause-exact : goal.returns-in-Ok-clause-exact
returns-in-Ok-clause-exact c = let a : AnswersFn c.args.text.now c.read_fn.result = search rules in λ other b n m. exact FnSection C (codes "fn") c.args.text.now refl c.read_fn.result other a b n m

pub returns-in-Err-clause-exact : goal.returns-in-Err-clause-exact
returns-in-Err-clause-exact c = let a : AnswersFn c.args.text.now (Err c.in-Err.fault) = search rules in λ other b n m. exact FnSection C (codes "fn") c.args.text.now refl (Err c.in-Err.fault) other a b n m
