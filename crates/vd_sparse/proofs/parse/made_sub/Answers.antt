use Rattle.std.proofs.Common.{rules, ℕ, Bool, List, Ok, Err, sym, subst}
use Rattle.vd_logic_grammar.specs.Grammar.{ScriptSection}
use Rattle.vd_logic_grammar.specs.Lexeme.{Lexeme, lexemes_of}
use Rattle.vd_logic_grammar.specs.Tokens.{IsCut, Answers}
use Rattle.vd_sparse.specs.declared.kind.SectionKind.TheVariants as kind
use Rattle.vd_sparse.specs.declared.text.LogicText.TheVariants as logic
use Rattle.vd_sparse.specs.Sections.{AnswersKind}
use Rattle.vd_sparse.specs.Whole.{front_answer}
use Rattle.vd_sparse.proofs.parse.made_sub.Goals as goal

pub returns-in-Ok-read_script : goal.returns-in-Ok-read_script
returns-in-Ok-read_script c = λ text h.
    let read : (ts : List Lexeme) (b : Bool) (end : ℕ) → IsCut ts b end (lexemes_of c.args.front.now.tokens.items) c.args.front.now.cause c.args.front.now.at → Answers ScriptSection ts b end (Ok c.in-Ok-read_script.found) = search rules in
    subst (λ x. AnswersKind kind.Sub text (Ok (logic.Sub x c.in-Ok-read_script.found))) (sym c.in-Ok.ensures)
    (front_answer kind.Sub text c.args.front.now.own.now (lexemes_of c.args.front.now.tokens.items) c.args.front.now.cause c.args.front.now.at (Ok c.in-Ok-read_script.found) h read)

pub returns-in-Err-read_script : goal.returns-in-Err-read_script
returns-in-Err-read_script c = λ text h.
    let read : (ts : List Lexeme) (b : Bool) (end : ℕ) → IsCut ts b end (lexemes_of c.args.front.now.tokens.items) c.args.front.now.cause c.args.front.now.at → Answers ScriptSection ts b end (Err c.in-Err-read_script.fault) = search rules in
    front_answer kind.Sub text c.args.front.now.own.now (lexemes_of c.args.front.now.tokens.items) c.args.front.now.cause c.args.front.now.at (Err c.in-Err-read_script.fault) h read
