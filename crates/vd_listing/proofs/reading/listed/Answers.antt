use Rattle.std.proofs.Common.{◌∙◌, sym, true}
use Rattle.vd_listing.proofs.Naming.{same_place, same_refusal, name_read, comma_read, name_lacks, comma_lacks}
use Rattle.vd_listing.specs.Listing as listing
use Rattle.vd_tokens.specs.Lexeme.{lexemes_of}
use Rattle.vd_listing.proofs.reading.listed.Goals as goal
use Rattle.vd_listing.proofs.reading.listed.Goals.{then-wants_name+in-Ok+in_ok-push-in-Ok, else-wants_name+then-is_comma}

pub returns-else-is_comma-clause-at : goal.returns-else-is_comma-clause-at
returns-else-is_comma-clause-at c = λ place is. comma_lacks c.args.tokens.now c.loop-token.token-index _ c.loop-token-test.true c.loop-token.names (listing.listed true (lexemes_of c.args.tokens.now)) c.loop-token.wants_name place
    c.if-wants_name.false (sym (c.is_comma.ensures) ∙ c.if-is_comma.false) (same_place _ _ is) c.loop-token.invariant

pub returns-in-Err-clause-at : goal.returns-in-Err-clause-at
returns-in-Err-clause-at c = λ place is. let why = c.in-Err.ensures.at place (same_refusal _ _ is) in name_lacks c.args.tokens.now c.loop-token.token-index _ c.loop-token-test.true c.loop-token.names (listing.listed true (lexemes_of c.args.tokens.now)) c.loop-token.wants_name place
    c.if-wants_name.true why.0 why.1 c.loop-token.invariant

pub loop-token-preserved : goal.loop-token-preserved
loop-token-preserved c = elim c.if-wants_name.branch [
  | then-wants_name+in-Ok+in_ok-push-in-Ok w ↦ name_read c.args.tokens.now c.loop-token.token-index _ c.loop-token-test.true c.loop-token.names (listing.listed true (lexemes_of c.args.tokens.now)) w.in-Ok.mention
      c.if-wants_name.names c.loop-token.wants_name c.if-wants_name.wants_name w.if-wants_name.true w.wants_name-is (w.names-is ∙ w.in_ok-push-in-Ok.ensures.ok) w.in-Ok.ensures.name.0 w.in-Ok.ensures.name.1 c.loop-token.invariant
  | else-wants_name+then-is_comma w ↦ comma_read c.args.tokens.now c.loop-token.token-index _ c.loop-token-test.true c.loop-token.names (listing.listed true (lexemes_of c.args.tokens.now))
      c.if-wants_name.names c.loop-token.wants_name c.if-wants_name.wants_name w.if-wants_name.false w.wants_name-is w.names-is (sym (w.is_comma.ensures) ∙ w.if-is_comma.true) c.loop-token.invariant
]
