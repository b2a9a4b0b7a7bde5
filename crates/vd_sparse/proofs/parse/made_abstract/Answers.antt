use Rattle.std.proofs.Common.{rules, ℕ, Bool, List, Ok, Err, sym, subst}
use Rattle.vd_logic_grammar.specs.Grammar.{AbstractSection}
use Rattle.vd_logic_grammar.specs.Lexeme.{Lexeme, lexemes_of}
use Rattle.vd_logic_grammar.specs.Tokens.{IsCut, Answers}
use Rattle.vd_sparse.specs.declared.kind.SectionKind.TheVariants as kind
use Rattle.vd_sparse.specs.Sections.{AnswersKind, made}
use Rattle.vd_sparse.specs.Whole.{front_answer}
use Rattle.vd_sparse.proofs.parse.made_abstract.Goals as goal

pub returns-in-Ok-read_abstract : goal.returns-in-Ok-read_abstract
returns-in-Ok-read_abstract c = λ text h.
    let read : (ts : List Lexeme) (b : Bool) (end : ℕ) → IsCut ts b end (lexemes_of c.args.front.now.tokens.items) c.args.front.now.cause c.args.front.now.at → Answers AbstractSection ts b end (Ok c.in-Ok-read_abstract.found) = search rules in
    rw c.declared.ensures (subst (λ x. AnswersKind kind.Abstract text (Ok (made kind.Abstract x c.in-Ok-read_abstract.found))) (sym c.in-Ok.ensures)
    (front_answer kind.Abstract text c.args.front.now.own.now (lexemes_of c.args.front.now.tokens.items) c.args.front.now.cause c.args.front.now.at (Ok c.in-Ok-read_abstract.found) h read))

pub returns-in-Err-read_abstract : goal.returns-in-Err-read_abstract
returns-in-Err-read_abstract c = λ text h.
    let read : (ts : List Lexeme) (b : Bool) (end : ℕ) → IsCut ts b end (lexemes_of c.args.front.now.tokens.items) c.args.front.now.cause c.args.front.now.at → Answers AbstractSection ts b end (Err c.in-Err-read_abstract.fault) = search rules in
    front_answer kind.Abstract text c.args.front.now.own.now (lexemes_of c.args.front.now.tokens.items) c.args.front.now.cause c.args.front.now.at (Err c.in-Err-read_abstract.fault) h read
