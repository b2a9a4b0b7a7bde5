-- Tokens that stand for words, wherever they are.
use Rattle.std.specs.Prelude.{ℕ, Bool, ◌≡◌, List, [], ◌∷◌, map}
use Rattle.vd_clight.specs.declared.syntax.Expr.{Expr}
use Rattle.vd_clight.specs.declared.syntax.FnText.{FnText}
use Rattle.vd_clight.specs.declared.syntax.Stmt.{Stmt}
use Rattle.vd_clight.specs.Printed.{Words, expression_words, statement_words, function_words}
use Rattle.vd_grammar.specs.Grammar.{Is}
use Rattle.vd_cgrammar.specs.Grammar.{grammar, Expression, Statement, Function}
use Rattle.vd_cgrammar.specs.Unplaced.{SameNode, SameStatement, SameFunction}
use Rattle.vd_cgrammar.specs.Lexeme.{Lexeme}
use Rattle.vd_cgrammar.specs.Precedence.{Vocabulary, Spells, node_of}

module _ (V : Vocabulary) where
  -- The token is what a reader takes the word for.
  pub record IsToken (t : Lexeme) (w : List ℕ) : Type 0 where
    pub kind_is : t.kind ≡ V.kind_at w
    pub spelling_is : t.spelling ≡ w
    pub value_is : t.value ≡ V.value_at w
    pub unsigned_is : t.is_unsigned ≡ V.unsigned_at w

  -- The tokens stand for the words, one for each.
  pub data AreTokens : List Lexeme → Words → Type 0 where
    none : AreTokens [] []
    next : {t : Lexeme} {ts : List Lexeme} {w : List ℕ} {ws : Words} → IsToken t w → AreTokens ts ws → AreTokens (t ∷ ts) (w ∷ ws)

-- the bytes of each token
abbrev pub spellings : List Lexeme → Words
spellings = map (λ t. t.spelling)

-- The tokens are what a reader takes their bytes for.
abbrev pub AreRead : Vocabulary → List Lexeme → Type 0
AreRead V ts = AreTokens V ts (spellings ts)

-- The tokens are the expression, places apart.
pub record ReadsAs (x : Expr) (ts : List Lexeme) : Type 0 where
  pub value : Expr
  pub is : Is grammar Expression ts value
  pub same : SameNode (node_of value) (node_of x)

-- What is printed of an expression that words spell is read as it, wherever its tokens stand.
abbrev pub PrintedIsRead : Type 0
PrintedIsRead = (V : Vocabulary) (most : ℕ) (x : Expr) (ws : Words) (ts : List Lexeme) → Spells V most (node_of x) ws → AreTokens V ts (expression_words x) → ReadsAs x ts

-- An expression that is read spells what its text prints, and what is printed of it is read as it.
abbrev pub ReadIsSpelled : Type 0
ReadIsSpelled = (V : Vocabulary) (x : Expr) (ts : List Lexeme) → Is grammar Expression ts x → AreRead V ts → Spells V 0 (node_of x) (spellings ts)

-- The tokens that are printed of an expression that is read are read as it, places apart.
abbrev pub ExpressionsReadBack : Type 0
ExpressionsReadBack = (V : Vocabulary) (x : Expr) (ts us : List Lexeme) → Is grammar Expression ts x → AreRead V ts → AreTokens V us (expression_words x) → ReadsAs x us

-- ---- statements and functions

-- The tokens are the statement, places apart.
pub record StatementReadsAs (inside : Bool) (x : Stmt) (ts : List Lexeme) : Type 0 where
  pub value : Stmt
  pub is : Is grammar (Statement inside) ts value
  pub same : SameStatement value x

-- The tokens that are printed of a statement that is read are read as it, places apart.
abbrev pub StatementsReadBack : Type 0
StatementsReadBack = (V : Vocabulary) (inside : Bool) (x : Stmt) (ts us : List Lexeme) → Is grammar (Statement inside) ts x → AreRead V ts → AreTokens V us (statement_words x)
    → StatementReadsAs inside x us

-- The tokens are the function, places apart.
pub record FunctionReadsAs (f : FnText) (ts : List Lexeme) : Type 0 where
  pub value : FnText
  pub is : Is grammar Function ts value
  pub same : SameFunction value f

-- The tokens that are printed of a function that is read are read as it, places apart.
abbrev pub FunctionsReadBack : Type 0
FunctionsReadBack = (V : Vocabulary) (f : FnText) (ts us : List Lexeme) → Is grammar Function ts f → AreRead V ts → AreTokens V us (function_words f) → FunctionReadsAs f us
