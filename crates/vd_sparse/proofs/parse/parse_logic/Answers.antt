use Rattle.std.proofs.Common.{rules}
use Rattle.vd_section.specs.HeaderLine.{word_of}
use Rattle.vd_sparse.specs.Sections.{kind_of, AnswersLogic}
use Rattle.vd_sparse.specs.Whole.{exact}
use Rattle.vd_sparse.proofs.parse.parse_logic.Goals as goal

pub returns-in-Abstract-clause-exact : goal.returns-in-Abstract-clause-exact
returns-in-Abstract-clause-exact c = let a : AnswersLogic c.args.text.now c.parse_abstract.result = search rules in λ other b n m. exact (kind_of (word_of c.args.text.now)) c.args.text.now c.parse_abstract.result other a b n m

pub returns-in-Pred-clause-exact : goal.returns-in-Pred-clause-exact
returns-in-Pred-clause-exact c = let a : AnswersLogic c.args.text.now c.parse_pred.result = search rules in λ other b n m. exact (kind_of (word_of c.args.text.now)) c.args.text.now c.parse_pred.result other a b n m

pub returns-in-Spec-clause-exact : goal.returns-in-Spec-clause-exact
returns-in-Spec-clause-exact c = let a : AnswersLogic c.args.text.now c.parse_spec.result = search rules in λ other b n m. exact (kind_of (word_of c.args.text.now)) c.args.text.now c.parse_spec.result other a b n m

pub returns-in-Script-clause-exact : goal.returns-in-Script-clause-exact
returns-in-Script-clause-exact c = let a : AnswersLogic c.args.text.now c.parse_script.result = search rules in λ other b n m. exact (kind_of (word_of c.args.text.now)) c.args.text.now c.parse_script.result other a b n m

pub returns-in-Sub-clause-exact : goal.returns-in-Sub-clause-exact
returns-in-Sub-clause-exact c = let a : AnswersLogic c.args.text.now c.parse_sub.result = search rules in λ other b n m. exact (kind_of (word_of c.args.text.now)) c.args.text.now c.parse_sub.result other a b n m

pub returns-in-Init-clause-exact : goal.returns-in-Init-clause-exact
returns-in-Init-clause-exact c = let a : AnswersLogic c.args.text.now c.parse_init.result = search rules in λ other b n m. exact (kind_of (word_of c.args.text.now)) c.args.text.now c.parse_init.result other a b n m
