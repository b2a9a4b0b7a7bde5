use Rattle.std.proofs.Common.{◌≡◌, true, drop}
use Rattle.vd_tokens.specs.declared.token.End.{End}
use Rattle.vd_tokens.specs.Lexeme.{lexemes_of}
use Rattle.vd_listing.specs.Listing as listing
use Rattle.vd_listing.proofs.reading.listed.Given as goal

-- the names found, then those of the tokens left, are all
abbrev pub invariant-loop-token : goal.invariant-loop-token
invariant-loop-token l = (end : End) → listing.listed true (lexemes_of l.tokens) end ≡ listing.with_names l.names (listing.listed l.wants_name (lexemes_of (drop l.token-index l.tokens)) end)
