use Rattle.std.proofs.Common.{rules}
use Rattle.vd_cparse.specs.Section.{AnswersDecl}
use Rattle.vd_cparse.proofs.Texts.{decl_exact}
use Rattle.vd_cparse.proofs.decl.parse_decl.Goals as goal

pub returns-then-spells-clause-exact : goal.returns-then-spells-clause-exact
returns-then-spells-clause-exact c = let a : AnswersDecl c.args.text.now c.parse_global.result = search rules in λ other b n m. decl_exact c.args.text.now c.parse_global.result other a b n m

pub returns-else-spells-clause-exact : goal.returns-else-spells-clause-exact
returns-else-spells-clause-exact c = let a : AnswersDecl c.args.text.now c.parse_struct.result = search rules in λ other b n m. decl_exact c.args.text.now c.parse_struct.result other a b n m
