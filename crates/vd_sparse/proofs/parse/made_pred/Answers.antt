use Rattle.std.proofs.Common.{rules, ℕ, Bool, List, Ok, Err, sym, subst}
use Rattle.vd_logic_grammar.specs.Grammar.{PredSection}
use Rattle.vd_logic_grammar.specs.Lexeme.{Lexeme, lexemes_of}
use Rattle.vd_logic_grammar.specs.Tokens.{IsCut, Answers}
use Rattle.vd_sparse.specs.declared.kind.SectionKind.TheVariants as kind
use Rattle.vd_sparse.specs.Sections.{AnswersKind, made}
use Rattle.vd_sparse.specs.Whole.{front_answer}
use Rattle.vd_sparse.proofs.parse.made_pred.Goals as goal

pub returns-in-Ok-read_pred : goal.returns-in-Ok-read_pred
returns-in-Ok-read_pred c = λ text h.
    let read : (ts : List Lexeme) (b : Bool) (end : ℕ) → IsCut ts b end (lexemes_of c.args.front.now.tokens.items) c.args.front.now.cause c.args.front.now.at → Answers PredSection ts b end (Ok c.in-Ok-read_pred.found) = search rules in
    rw c.predicate.ensures (subst (λ x. AnswersKind kind.Pred text (Ok (made kind.Pred x c.in-Ok-read_pred.found))) (sym c.in-Ok.ensures)
    (front_answer kind.Pred text c.args.front.now.own.now (lexemes_of c.args.front.now.tokens.items) c.args.front.now.cause c.args.front.now.at (Ok c.in-Ok-read_pred.found) h read))

pub returns-in-Err-read_pred : goal.returns-in-Err-read_pred
returns-in-Err-read_pred c = λ text h.
    let read : (ts : List Lexeme) (b : Bool) (end : ℕ) → IsCut ts b end (lexemes_of c.args.front.now.tokens.items) c.args.front.now.cause c.args.front.now.at → Answers PredSection ts b end (Err c.in-Err-read_pred.fault) = search rules in
    front_answer kind.Pred text c.args.front.now.own.now (lexemes_of c.args.front.now.tokens.items) c.args.front.now.cause c.args.front.now.at (Err c.in-Err-read_pred.fault) h read
