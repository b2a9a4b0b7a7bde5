-- The grammar of C sections. `symbols` is the right side of each rule, and `make` is the syntax that it has. Where C decides by two tokens, what stands behind the first is a sort of its own.
use Rattle.std.specs.Prelude.{ℕ, zero, suc, Bool, true, false, List, [], ◌∷◌, Option, None, Some, if◌then◌else◌}
use Rattle.vd_base.specs.declared.ctype.CType.{CType}
use Rattle.vd_base.specs.declared.ctype.CType.TheVariants as typ
use Rattle.vd_base.specs.declared.ctype.Field.{Field}
use Rattle.vd_clight.specs.declared.program.Init.{Init}
use Rattle.vd_clight.specs.declared.program.Init.TheVariants as init
use Rattle.vd_clight.specs.declared.syntax.Expr.{Expr}
use Rattle.vd_clight.specs.declared.syntax.ExprNode.TheVariants as e
use Rattle.vd_clight.specs.declared.syntax.FnText.{FnText}
use Rattle.vd_clight.specs.declared.syntax.Stmt.{Stmt}
use Rattle.vd_clight.specs.declared.syntax.StmtNode.TheVariants as s
use Rattle.vd_grammar.specs.Grammar.{Symbol, word, part, Row, Grammar}
use Rattle.vd_cgrammar.specs.declared.kind.Kind.{Kind}
use Rattle.vd_cgrammar.specs.declared.kind.Kind.TheVariants as k
use Rattle.vd_cgrammar.specs.declared.kind.Class.{Class}
use Rattle.vd_cgrammar.specs.declared.kind.Class.TheVariants as c
use Rattle.vd_cgrammar.specs.declared.parts.Postfix.{Postfix}
use Rattle.vd_cgrammar.specs.declared.parts.Postfix.TheVariants as postfix
use Rattle.vd_cgrammar.specs.declared.parts.Enclosed.{Enclosed}
use Rattle.vd_cgrammar.specs.declared.parts.Enclosed.TheVariants as enclosed
use Rattle.vd_cgrammar.specs.declared.parts.Source.{Source}
use Rattle.vd_cgrammar.specs.declared.parts.Source.TheVariants as source
use Rattle.vd_cgrammar.specs.declared.parts.Tail.{Tail}
use Rattle.vd_cgrammar.specs.declared.parts.Tail.TheVariants as tail
use Rattle.vd_cgrammar.specs.declared.parts.Named.{Named}
use Rattle.vd_cgrammar.specs.declared.parts.Named.TheVariants as named
use Rattle.vd_cgrammar.specs.declared.parts.Invocation.{Invocation}
use Rattle.vd_cgrammar.specs.declared.parts.Decl.{Decl}
use Rattle.vd_cgrammar.specs.declared.parts.Decl.TheVariants as decl
use Rattle.vd_cgrammar.specs.Kinds.{has}
use Rattle.vd_cgrammar.specs.Lexeme.{Lexeme}
use Rattle.vd_cgrammar.specs.Syntax.{simple_of, pointers, array_of, field_of, at, prefixed, measured, behind, in_brackets, grouped, stmt_at, called, assigned, source_of, statement_of, jump_of, negative}

-- What is read. A statement is read inside a `while` or outside. `MoreValues n` has at most n values.
pub data Sort : Type 0 where
  FnSection StructSection GlobalSection : Sort
  Function Parameters AfterVoid MoreParameters Declarations Type_ Filled VoidType Stars : Sort
  Expression Operations Unary Plain AfterParen Postfixes : Sort
  Arguments MoreArguments Special Right AfterTarget AfterName Returned : Sort
  Fields Length Initial Initials InitValue : Sort
  MoreValues : ℕ → Sort
  Statement Statements Block Otherwise : Bool → Sort

-- the syntax of each
abbrev pub Value : Sort → Type 0
Value FnSection = FnText
Value StructSection = Decl
Value GlobalSection = Decl
Value Function = FnText
Value Parameters = List Field
Value AfterVoid = List Field
Value MoreParameters = List Field
Value Declarations = List Field
Value Type_ = CType
Value Filled = CType
Value VoidType = CType
Value Stars = ℕ
Value Expression = Expr
Value Operations = List (Kind × Expr)
Value Unary = Expr
Value Plain = Expr
Value AfterParen = Enclosed
Value Postfixes = List Postfix
Value Arguments = List Expr
Value MoreArguments = List Expr
Value Special = Invocation
Value Right = Source
Value AfterTarget = Tail
Value AfterName = Named
Value Returned = Option Expr
Value Fields = List Field
Value Length = Option ℕ
Value Initial = List Init
Value Initials = List Init
Value InitValue = Init
Value (MoreValues _) = List Init
Value (Statement _) = Stmt
Value (Statements _) = List Stmt
Value (Block _) = List Stmt
Value (Otherwise _) = List Stmt

-- ---- the rules

-- the rules by which each is written
pub data Rule : Sort → Type 0 where
  fn_section : Rule FnSection
  struct_section : Rule StructSection
  global_section : Rule GlobalSection
  function : Rule Function
  void_first filled_first : Rule Parameters
  no_parameter void_parameter : Rule AfterVoid
  last_parameter next_parameter : Rule MoreParameters
  no_declaration declaration : Rule Declarations
  simple_type struct_type : Rule Type_
  filled_type filled_struct : Rule Filled
  void_type : Rule VoidType
  no_star star : Rule Stars
  expression : Rule Expression
  no_operation operation : Rule Operations
  name other_operand : Rule Unary
  prefix measure number paren : Rule Plain
  cast brackets : Rule AfterParen
  no_postfix member index : Rule Postfixes
  no_argument first_argument : Rule Arguments
  last_argument next_argument : Rule MoreArguments
  malloc spawn library : Rule Special
  special_source named_source other_source : Rule Right
  called_source operated_source : Rule AfterTarget
  called_statement assigned_statement : Rule AfterName
  no_value value : Rule Returned
  last_field next_field : Rule Fields
  no_length length : Rule Length
  no_initial initial : Rule Initial
  one_value several_values : Rule Initials
  positive_value negative_value address_value : Rule InitValue
  last_value : {most : ℕ} → Rule (MoreValues most)
  next_value : {most : ℕ} → Rule (MoreValues (suc most))
  skip if_else while return special_statement named_statement other_statement : {inside : Bool} → Rule (Statement inside)
  jump : Rule (Statement true)
  last_statement next_statement : {inside : Bool} → Rule (Statements inside)
  block : {inside : Bool} → Rule (Block inside)
  no_else else_block : {inside : Bool} → Rule (Otherwise inside)

-- a token of this kind
abbrev pub token : Kind → Symbol Class Sort
token kind = word (c.One kind)

-- the right side of each rule
abbrev pub symbols : {S : Sort} → Rule S → List (Symbol Class Sort)
-- a section is its content, and the line `end`
symbols fn_section = part Function ∷ token k.EndLine ∷ []
-- "struct" NAME "{" { type NAME [ "[" num "]" ] ";" } "}" ";"
symbols struct_section = token k.Struct ∷ token k.Own ∷ token k.LeftBrace ∷ part Fields ∷ token k.Semicolon ∷ token k.EndLine ∷ []
-- type NAME [ "[" num "]" ] [ "=" init ] ";"
symbols global_section = part Type_ ∷ token k.Own ∷ part Length ∷ part Initial ∷ token k.Semicolon ∷ token k.EndLine ∷ []
-- fun = type NAME "(" ( "void" | type NAME { "," type NAME } ) ")" "{" { type NAME ";" } { stmt } "}"
symbols function = part Type_ ∷ token k.Own ∷ token k.LeftParen ∷ part Parameters ∷ token k.LeftBrace ∷ part Declarations ∷ part (Statements false) ∷ []
symbols void_first = token k.Void ∷ part AfterVoid ∷ []
symbols filled_first = part Filled ∷ word c.AnyName ∷ part MoreParameters ∷ []
symbols no_parameter = token k.RightParen ∷ []
symbols void_parameter = part VoidType ∷ word c.AnyName ∷ part MoreParameters ∷ []
symbols last_parameter = token k.RightParen ∷ []
symbols next_parameter = token k.Comma ∷ part Type_ ∷ word c.AnyName ∷ part MoreParameters ∷ []
symbols no_declaration = []
symbols declaration = part Type_ ∷ word c.AnyName ∷ token k.Semicolon ∷ part Declarations ∷ []
-- type = ( "int" | "unsigned" | "lock" | "void" | "struct" NAME ) { "*" }
symbols simple_type = word c.SimpleType ∷ part Stars ∷ []
symbols struct_type = token k.Struct ∷ word c.AnyName ∷ part Stars ∷ []
-- a type that does not begin with "void", and what stands behind "void"
symbols filled_type = word c.FilledType ∷ part Stars ∷ []
symbols filled_struct = token k.Struct ∷ word c.AnyName ∷ part Stars ∷ []
symbols void_type = part Stars ∷ []
symbols no_star = []
symbols star = token k.Star ∷ part Stars ∷ []
-- operands with binary operators between them
symbols expression = part Unary ∷ part Operations ∷ []
symbols no_operation = []
symbols operation = word c.Binary ∷ part Unary ∷ part Operations ∷ []
-- an operand: NAME, a prefix operator before one, `sizeof` or `alignof`, a number, a cast or an expression in brackets
symbols name = word c.AnyName ∷ part Postfixes ∷ []
symbols other_operand = part Plain ∷ []
symbols prefix = word c.Prefix ∷ part Unary ∷ []
symbols measure = word c.Measure ∷ token k.LeftParen ∷ part Type_ ∷ token k.RightParen ∷ []
symbols number = word c.AnyNumber ∷ part Postfixes ∷ []
symbols paren = token k.LeftParen ∷ part AfterParen ∷ []
symbols cast = part Type_ ∷ token k.RightParen ∷ part Unary ∷ []
symbols brackets = part Expression ∷ token k.RightParen ∷ part Postfixes ∷ []
-- ".f", "->f", "[e]"
symbols no_postfix = []
symbols member = word c.Member ∷ word c.AnyName ∷ part Postfixes ∷ []
symbols index = token k.LeftBracket ∷ part Expression ∷ token k.RightBracket ∷ part Postfixes ∷ []
-- args = expr { "," expr }
symbols no_argument = token k.RightParen ∷ []
symbols first_argument = part Expression ∷ part MoreArguments ∷ []
symbols last_argument = token k.RightParen ∷ []
symbols next_argument = token k.Comma ∷ part Expression ∷ part MoreArguments ∷ []
-- the functions whose names are reserved: `malloc` has `sizeof(type)`, `spawn` has a function's name first
symbols malloc = token k.Malloc ∷ token k.LeftParen ∷ token k.SizeOf ∷ token k.LeftParen ∷ part Type_ ∷ token k.RightParen ∷ token k.RightParen ∷ []
symbols spawn = token k.Spawn ∷ token k.LeftParen ∷ word c.AnyName ∷ part MoreArguments ∷ []
symbols library = token k.Library ∷ token k.LeftParen ∷ part Arguments ∷ []
-- stmt = ";" | expr "=" expr ";" | [ expr "=" ] NAME "(" [ args ] ")" ";" | "if" "(" expr ")" block [ "else" block ] | "while" "(" expr ")" block
--      | "return" [ expr ] ";" | "break" ";" | "continue" ";"
symbols special_source = part Special ∷ token k.Semicolon ∷ []
symbols named_source = word c.AnyName ∷ part AfterTarget ∷ []
symbols other_source = part Plain ∷ part Operations ∷ token k.Semicolon ∷ []
symbols called_source = token k.LeftParen ∷ part Arguments ∷ token k.Semicolon ∷ []
symbols operated_source = part Postfixes ∷ part Operations ∷ token k.Semicolon ∷ []
symbols called_statement = token k.LeftParen ∷ part Arguments ∷ token k.Semicolon ∷ []
symbols assigned_statement = part Postfixes ∷ part Operations ∷ token k.Assign ∷ part Right ∷ []
symbols no_value = token k.Semicolon ∷ []
symbols value = part Expression ∷ token k.Semicolon ∷ []
symbols skip = token k.Semicolon ∷ []
symbols (if_else {inside}) = token k.If ∷ token k.LeftParen ∷ part Expression ∷ token k.RightParen ∷ part (Block inside) ∷ part (Otherwise inside) ∷ []
symbols while = token k.While ∷ token k.LeftParen ∷ part Expression ∷ token k.RightParen ∷ part (Block true) ∷ []
symbols return = token k.Return ∷ part Returned ∷ []
symbols special_statement = part Special ∷ token k.Semicolon ∷ []
symbols named_statement = word c.AnyName ∷ part AfterName ∷ []
symbols other_statement = part Plain ∷ part Operations ∷ token k.Assign ∷ part Right ∷ []
symbols jump = word c.Jump ∷ token k.Semicolon ∷ []
symbols last_statement = token k.RightBrace ∷ []
symbols (next_statement {inside}) = part (Statement inside) ∷ part (Statements inside) ∷ []
-- block = "{" { stmt } "}"
symbols (block {inside}) = token k.LeftBrace ∷ part (Statements inside) ∷ []
symbols no_else = []
symbols (else_block {inside}) = token k.Else ∷ part (Block inside) ∷ []
-- a field of a struct: type NAME [ "[" num "]" ] ";"
symbols last_field = token k.RightBrace ∷ []
symbols next_field = part Type_ ∷ word c.AnyName ∷ part Length ∷ token k.Semicolon ∷ part Fields ∷ []
symbols no_length = []
symbols length = token k.LeftBracket ∷ token k.Length ∷ token k.RightBracket ∷ []
-- init = value | "{" value { "," value } "}", with at most 128 values        value = [ "-" ] num | "&" NAME
symbols no_initial = []
symbols initial = token k.Assign ∷ part Initials ∷ []
symbols one_value = part InitValue ∷ []
symbols several_values = token k.LeftBrace ∷ part InitValue ∷ part (MoreValues 127) ∷ []
symbols positive_value = word c.AnyNumber ∷ []
symbols negative_value = token k.Minus ∷ word c.AnyNumber ∷ []
symbols address_value = token k.And ∷ word c.AnyName ∷ []
symbols last_value = token k.RightBrace ∷ []
symbols (next_value {most}) = token k.Comma ∷ part InitValue ∷ part (MoreValues most) ∷ []

-- The syntax of each rule, given that of its symbols. A number of the grammar is its token's; what begins with a token begins at its place.
abbrev pub make : {S : Sort} → (r : Rule S) → Row Class Sort Lexeme Value (symbols r) → Value S
make fn_section (f, _) = f
make struct_section (_, (x, (_, (fs, _)))) = decl.Struct x.spelling fs
make global_section (t, (x, (n, (vs, _)))) = decl.Global (field_of x.spelling (array_of n t)) vs
make function (t, (f, (_, (ps, (_, (ts, (ss, _))))))) = record { ret = t; name = f.spelling; params = ps; temps = ts; body = ss }
make void_first (_, (ps, _)) = ps
make filled_first (t, (x, (ps, _))) = field_of x.spelling t ∷ ps
make no_parameter _ = []
make void_parameter (t, (x, (ps, _))) = field_of x.spelling t ∷ ps
make last_parameter _ = []
make next_parameter (_, (t, (x, (ps, _)))) = field_of x.spelling t ∷ ps
make no_declaration _ = []
make declaration (t, (x, (_, (ts, _)))) = field_of x.spelling t ∷ ts
make simple_type (t, (n, _)) = pointers n (simple_of t.kind)
make struct_type (_, (x, (n, _))) = pointers n (typ.Struct x.spelling)
make filled_type (t, (n, _)) = pointers n (simple_of t.kind)
make filled_struct (_, (x, (n, _))) = pointers n (typ.Struct x.spelling)
make void_type (n, _) = pointers n typ.Void
make no_star _ = 0
make star (_, (n, _)) = suc n
make expression (x, (os, _)) = grouped x os
make no_operation _ = []
make operation (o, (x, (os, _))) = (o.kind, x) ∷ os
make name (x, (ps, _)) = behind x.place (e.Ident x.spelling) ps
make other_operand (x, _) = x
make prefix (o, (x, _)) = at o.place (prefixed o.kind x)
make measure (w, (_, (t, _))) = at w.place (measured w.kind t)
make number (n, (ps, _)) = behind n.place (e.Num n.value n.is_unsigned) ps
make paren (b, (x, _)) = in_brackets b.place x
make cast (t, (_, (x, _))) = enclosed.Cast t x
make brackets (x, (_, (ps, _))) = enclosed.Brackets x ps
make no_postfix _ = []
make member (o, (f, (ps, _))) = postfix.Member o.kind f.spelling ∷ ps
make index (_, (x, (_, (ps, _)))) = postfix.Index x ∷ ps
make no_argument _ = []
make first_argument (x, (xs, _)) = x ∷ xs
make last_argument _ = []
make next_argument (_, (x, (xs, _))) = x ∷ xs
make malloc (f, (_, (m, (_, (t, _))))) = called f.place f.spelling (at m.place (e.SizeOf t) ∷ [])
make spawn (f, (_, (x, (xs, _)))) = called f.place f.spelling (at x.place (e.Ident x.spelling) ∷ xs)
make library (f, (_, (xs, _))) = called f.place f.spelling xs
make special_source (f, _) = source.Call f.name f.arguments
make named_source (x, (t, _)) = source_of x.place x.spelling t
make other_source (x, (os, _)) = source.Value (grouped x os)
make called_source (_, (xs, _)) = tail.Called xs
make operated_source (ps, (os, _)) = tail.Operated ps os
make called_statement (_, (xs, _)) = named.Called xs
make assigned_statement (ps, (os, (_, (x, _)))) = named.Assigned ps os x
make no_value _ = None
make value (x, _) = Some x
make skip (t, _) = stmt_at t.place s.Skip
make if_else (t, (_, (x, (_, (b, (o, _)))))) = stmt_at t.place (s.If x b o)
make while (t, (_, (x, (_, (b, _))))) = stmt_at t.place (s.While x b)
make return (t, (x, _)) = stmt_at t.place (s.Return x)
make special_statement (f, _) = stmt_at f.place (s.Call None f.name f.arguments)
make named_statement (x, (n, _)) = statement_of x.place x.spelling n
make other_statement (x, (os, (_, (r, _)))) = assigned (grouped x os) r
make jump (t, _) = stmt_at t.place (jump_of t.kind)
make last_statement _ = []
make next_statement (x, (xs, _)) = x ∷ xs
make block (_, (xs, _)) = xs
make no_else _ = []
make else_block (_, (xs, _)) = xs
make last_field _ = []
make next_field (t, (x, (n, (_, (fs, _))))) = field_of x.spelling (array_of n t) ∷ fs
make no_length _ = None
make length (_, (n, _)) = Some n.value
make no_initial _ = []
make initial (_, (vs, _)) = vs
make one_value (v, _) = v ∷ []
make several_values (_, (v, (vs, _))) = v ∷ vs
make positive_value (n, _) = init.Int n.value
make negative_value (_, (n, _)) = init.Int (negative n.value)
make address_value (_, (x, _)) = init.Addr x.spelling
make last_value _ = []
make next_value (_, (v, (vs, _))) = v ∷ vs

-- ---- reading by the next token

-- the rules of a statement that no other word begins: `break` and `continue` are two of them inside a `while` alone
abbrev pub last_choice : (inside : Bool) → Kind → Option (Rule (Statement inside))
last_choice true kind = if has c.Jump kind then Some Rule.jump else Some Rule.other_statement
last_choice false kind = Some Rule.other_statement

-- the rules of a statement that no keyword of its own begins
abbrev pub wordless_choice : (inside : Bool) → Kind → Option (Rule (Statement inside))
wordless_choice inside kind =
    if has c.AnyName kind then Some Rule.named_statement else (
    if has c.Reserved kind then Some Rule.special_statement else last_choice inside kind)

-- the rule by which a sort is read
abbrev pub choose : (S : Sort) → Kind → Option (Rule S)
choose FnSection kind = Some Rule.fn_section
choose StructSection kind = Some Rule.struct_section
choose GlobalSection kind = Some Rule.global_section
choose Function kind = Some Rule.function
choose Parameters kind = if has (c.One k.Void) kind then Some Rule.void_first else Some Rule.filled_first
choose AfterVoid kind = if has (c.One k.RightParen) kind then Some Rule.no_parameter else Some Rule.void_parameter
choose MoreParameters kind = if has (c.One k.RightParen) kind then Some Rule.last_parameter else Some Rule.next_parameter
choose Declarations kind = if has c.TypeWord kind then Some Rule.declaration else Some Rule.no_declaration
choose Type_ kind = if has c.SimpleType kind then Some Rule.simple_type else Some Rule.struct_type
choose Filled kind = if has c.FilledType kind then Some Rule.filled_type else Some Rule.filled_struct
choose VoidType kind = Some Rule.void_type
choose Stars kind = if has (c.One k.Star) kind then Some Rule.star else Some Rule.no_star
choose Expression kind = Some Rule.expression
choose Operations kind = if has c.Binary kind then Some Rule.operation else Some Rule.no_operation
choose Unary kind = if has c.AnyName kind then Some Rule.name else Some Rule.other_operand
choose Plain kind =
    if has c.Prefix kind then Some Rule.prefix else (
    if has c.Measure kind then Some Rule.measure else (
    if has c.AnyNumber kind then Some Rule.number else Some Rule.paren))
choose AfterParen kind = if has c.TypeWord kind then Some Rule.cast else Some Rule.brackets
choose Postfixes kind =
    if has c.Member kind then Some Rule.member else (
    if has (c.One k.LeftBracket) kind then Some Rule.index else Some Rule.no_postfix)
choose Arguments kind = if has (c.One k.RightParen) kind then Some Rule.no_argument else Some Rule.first_argument
choose MoreArguments kind = if has (c.One k.RightParen) kind then Some Rule.last_argument else Some Rule.next_argument
choose Special kind =
    if has (c.One k.Malloc) kind then Some Rule.malloc else (
    if has (c.One k.Spawn) kind then Some Rule.spawn else Some Rule.library)
choose Right kind =
    if has c.Reserved kind then Some Rule.special_source else (
    if has c.AnyName kind then Some Rule.named_source else Some Rule.other_source)
choose AfterTarget kind = if has (c.One k.LeftParen) kind then Some Rule.called_source else Some Rule.operated_source
choose AfterName kind = if has (c.One k.LeftParen) kind then Some Rule.called_statement else Some Rule.assigned_statement
choose Returned kind = if has (c.One k.Semicolon) kind then Some Rule.no_value else Some Rule.value
choose Fields kind = if has (c.One k.RightBrace) kind then Some Rule.last_field else Some Rule.next_field
choose Length kind = if has (c.One k.LeftBracket) kind then Some Rule.length else Some Rule.no_length
choose Initial kind = if has (c.One k.Assign) kind then Some Rule.initial else Some Rule.no_initial
choose Initials kind = if has (c.One k.LeftBrace) kind then Some Rule.several_values else Some Rule.one_value
choose InitValue kind =
    if has c.AnyNumber kind then Some Rule.positive_value else (
    if has (c.One k.Minus) kind then Some Rule.negative_value else Some Rule.address_value)
choose (MoreValues zero) kind = Some Rule.last_value
choose (MoreValues (suc most)) kind = if has (c.One k.Comma) kind then Some Rule.next_value else Some Rule.last_value
choose (Statement inside) kind =
    if has (c.One k.Semicolon) kind then Some Rule.skip else (
    if has (c.One k.If) kind then Some Rule.if_else else (
    if has (c.One k.While) kind then Some Rule.while else (
    if has (c.One k.Return) kind then Some Rule.return else wordless_choice inside kind)))
choose (Statements inside) kind = if has (c.One k.RightBrace) kind then Some Rule.last_statement else Some Rule.next_statement
choose (Block inside) kind = Some Rule.block
choose (Otherwise inside) kind = if has (c.One k.Else) kind then Some Rule.else_block else Some Rule.no_else

-- the grammar of C sections, as a table
abbrev pub grammar : Grammar
grammar = record {
  Kind = Kind;
  Class = Class;
  Sort = Sort;
  Token = Lexeme;
  Value = Value;
  Rule = Rule;
  end = k.End;
  kind = λ t. t.kind;
  has = has;
  symbols = λ {S} r. symbols r;
  make = λ {S} r vs. make r vs;
  choose = choose;
  ranks = 4;
}
