use Rattle.std.proofs.Common.{rules, ℕ, Bool, List, Ok, Err}
use Rattle.vd_logic_grammar.specs.Grammar.{SpecSection}
use Rattle.vd_logic_grammar.specs.Lexeme.{Lexeme, lexemes_of}
use Rattle.vd_logic_grammar.specs.Tokens.{IsCut, Answers}
use Rattle.vd_sparse.specs.declared.kind.SectionKind.TheVariants as kind
use Rattle.vd_sparse.specs.Whole.{front_answer}
use Rattle.vd_sparse.proofs.parse.made_spec.Goals as goal

pub returns-in-Ok : goal.returns-in-Ok
returns-in-Ok c = λ text h.
    let read : (ts : List Lexeme) (b : Bool) (end : ℕ) → IsCut ts b end (lexemes_of c.args.front.now.tokens.items) c.args.front.now.cause c.args.front.now.at → Answers SpecSection ts b end (Ok c.in-Ok.found) = search rules in
    rw c.specification.ensures (front_answer kind.Spec text c.args.front.now.own.now (lexemes_of c.args.front.now.tokens.items) c.args.front.now.cause c.args.front.now.at (Ok c.in-Ok.found) h read)

pub returns-in-Err : goal.returns-in-Err
returns-in-Err c = λ text h.
    let read : (ts : List Lexeme) (b : Bool) (end : ℕ) → IsCut ts b end (lexemes_of c.args.front.now.tokens.items) c.args.front.now.cause c.args.front.now.at → Answers SpecSection ts b end (Err c.in-Err.fault) = search rules in
    front_answer kind.Spec text c.args.front.now.own.now (lexemes_of c.args.front.now.tokens.items) c.args.front.now.cause c.args.front.now.at (Err c.in-Err.fault) h read
