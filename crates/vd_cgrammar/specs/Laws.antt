-- What the grammar of C sections owes: which kinds begin a sort, which may follow it, and that no two rules of a sort are in question at one token.
use Rattle.std.proofs.Common.{ℕ, zero, suc, ◌≡◌, Bool, true, false, ◌||◌, List, [], ◌∷◌, Some, refl}
use Rattle.std.specs.Prelude.{nat_lt}
use Rattle.vd_grammar.specs.Tables.{nth, Tables, is_sound, lower, Laws}
use Rattle.vd_grammar.specs.Reading.{by_choice}
use Rattle.vd_grammar.specs.Exact as exact
use Rattle.vd_cgrammar.specs.declared.kind.Kind.{Kind}
use Rattle.vd_cgrammar.specs.declared.kind.Kind.TheVariants as k
use Rattle.vd_cgrammar.specs.declared.kind.Class.{Class}
use Rattle.vd_cgrammar.specs.declared.kind.Class.TheVariants as c
use Rattle.vd_cgrammar.specs.Kinds.{kind_number, same, has}
use Rattle.vd_cgrammar.specs.Lexeme.{Lexeme, kind_of}
use Rattle.vd_cgrammar.specs.Grammar.{Sort, FnSection, StructSection, GlobalSection, Function, Parameters, AfterVoid, MoreParameters, Declarations, Type_, Filled, VoidType, Stars, Expression, Operations, Unary, Plain, AfterParen, Postfixes, Arguments, MoreArguments, Special, Right, AfterTarget, AfterName, Returned, Fields, Length, Initial, Initials, InitValue, MoreValues, Statement, Statements, Block, Otherwise, Rule, symbols, choose, grammar}
use Rattle.vd_cgrammar.specs.Read.{read}

abbrev pub kinds : List Kind
kinds = k.End ∷ k.Name ∷ k.Own ∷ k.Number ∷ k.Length ∷ k.Int ∷ k.Unsigned ∷ k.Lock ∷ k.Void ∷ k.Struct ∷ k.If ∷ k.Else ∷ k.While ∷ k.Return ∷ k.Break ∷ k.Continue ∷ k.SizeOf ∷ k.AlignOf ∷ k.Malloc ∷ k.Spawn ∷ k.Library ∷ k.LeftParen ∷ k.RightParen ∷ k.LeftBrace ∷ k.RightBrace ∷ k.LeftBracket ∷ k.RightBracket ∷ k.Semicolon ∷ k.Comma ∷ k.Assign ∷ k.Or ∷ k.Xor ∷ k.And ∷ k.Equal ∷ k.NotEqual ∷ k.Less ∷ k.LessEqual ∷ k.Greater ∷ k.GreaterEqual ∷ k.ShiftLeft ∷ k.ShiftRight ∷ k.Plus ∷ k.Minus ∷ k.Star ∷ k.Slash ∷ k.Percent ∷ k.Not ∷ k.Tilde ∷ k.Dot ∷ k.Arrow ∷ k.EndLine ∷ k.Other ∷ []

abbrev pub rules : (S : Sort) → List (Rule S)
rules FnSection = Rule.fn_section ∷ []
rules StructSection = Rule.struct_section ∷ []
rules GlobalSection = Rule.global_section ∷ []
rules Function = Rule.function ∷ []
rules Parameters = Rule.void_first ∷ Rule.filled_first ∷ []
rules AfterVoid = Rule.no_parameter ∷ Rule.void_parameter ∷ []
rules MoreParameters = Rule.last_parameter ∷ Rule.next_parameter ∷ []
rules Declarations = Rule.no_declaration ∷ Rule.declaration ∷ []
rules Type_ = Rule.simple_type ∷ Rule.struct_type ∷ []
rules Filled = Rule.filled_type ∷ Rule.filled_struct ∷ []
rules VoidType = Rule.void_type ∷ []
rules Stars = Rule.no_star ∷ Rule.star ∷ []
rules Expression = Rule.expression ∷ []
rules Operations = Rule.no_operation ∷ Rule.operation ∷ []
rules Unary = Rule.name ∷ Rule.other_operand ∷ []
rules Plain = Rule.prefix ∷ Rule.measure ∷ Rule.number ∷ Rule.paren ∷ []
rules AfterParen = Rule.cast ∷ Rule.brackets ∷ []
rules Postfixes = Rule.no_postfix ∷ Rule.member ∷ Rule.index ∷ []
rules Arguments = Rule.no_argument ∷ Rule.first_argument ∷ []
rules MoreArguments = Rule.last_argument ∷ Rule.next_argument ∷ []
rules Special = Rule.malloc ∷ Rule.spawn ∷ Rule.library ∷ []
rules Right = Rule.special_source ∷ Rule.named_source ∷ Rule.other_source ∷ []
rules AfterTarget = Rule.called_source ∷ Rule.operated_source ∷ []
rules AfterName = Rule.called_statement ∷ Rule.assigned_statement ∷ []
rules Returned = Rule.no_value ∷ Rule.value ∷ []
rules Fields = Rule.last_field ∷ Rule.next_field ∷ []
rules Length = Rule.no_length ∷ Rule.length ∷ []
rules Initial = Rule.no_initial ∷ Rule.initial ∷ []
rules Initials = Rule.one_value ∷ Rule.several_values ∷ []
rules InitValue = Rule.positive_value ∷ Rule.negative_value ∷ Rule.address_value ∷ []
rules (MoreValues zero) = Rule.last_value ∷ []
rules (MoreValues (suc most)) = Rule.last_value ∷ Rule.next_value ∷ []
rules (Statement false) = Rule.skip ∷ Rule.if_else ∷ Rule.while ∷ Rule.return ∷ Rule.special_statement ∷ Rule.named_statement ∷ Rule.other_statement ∷ []
rules (Statement true) = Rule.skip ∷ Rule.if_else ∷ Rule.while ∷ Rule.return ∷ Rule.special_statement ∷ Rule.named_statement ∷ Rule.other_statement ∷ Rule.jump ∷ []
rules (Statements inside) = Rule.last_statement ∷ Rule.next_statement ∷ []
rules (Block inside) = Rule.block ∷ []
rules (Otherwise inside) = Rule.no_else ∷ Rule.else_block ∷ []

abbrev pub rule_number : {S : Sort} → Rule S → ℕ
rule_number Rule.fn_section = 0
rule_number Rule.struct_section = 0
rule_number Rule.global_section = 0
rule_number Rule.function = 0
rule_number Rule.void_first = 0
rule_number Rule.filled_first = 1
rule_number Rule.no_parameter = 0
rule_number Rule.void_parameter = 1
rule_number Rule.last_parameter = 0
rule_number Rule.next_parameter = 1
rule_number Rule.no_declaration = 0
rule_number Rule.declaration = 1
rule_number Rule.simple_type = 0
rule_number Rule.struct_type = 1
rule_number Rule.filled_type = 0
rule_number Rule.filled_struct = 1
rule_number Rule.void_type = 0
rule_number Rule.no_star = 0
rule_number Rule.star = 1
rule_number Rule.expression = 0
rule_number Rule.no_operation = 0
rule_number Rule.operation = 1
rule_number Rule.name = 0
rule_number Rule.other_operand = 1
rule_number Rule.prefix = 0
rule_number Rule.measure = 1
rule_number Rule.number = 2
rule_number Rule.paren = 3
rule_number Rule.cast = 0
rule_number Rule.brackets = 1
rule_number Rule.no_postfix = 0
rule_number Rule.member = 1
rule_number Rule.index = 2
rule_number Rule.no_argument = 0
rule_number Rule.first_argument = 1
rule_number Rule.last_argument = 0
rule_number Rule.next_argument = 1
rule_number Rule.malloc = 0
rule_number Rule.spawn = 1
rule_number Rule.library = 2
rule_number Rule.special_source = 0
rule_number Rule.named_source = 1
rule_number Rule.other_source = 2
rule_number Rule.called_source = 0
rule_number Rule.operated_source = 1
rule_number Rule.called_statement = 0
rule_number Rule.assigned_statement = 1
rule_number Rule.no_value = 0
rule_number Rule.value = 1
rule_number Rule.last_field = 0
rule_number Rule.next_field = 1
rule_number Rule.no_length = 0
rule_number Rule.length = 1
rule_number Rule.no_initial = 0
rule_number Rule.initial = 1
rule_number Rule.one_value = 0
rule_number Rule.several_values = 1
rule_number Rule.positive_value = 0
rule_number Rule.negative_value = 1
rule_number Rule.address_value = 2
rule_number Rule.last_value = 0
rule_number Rule.next_value = 1
rule_number Rule.skip = 0
rule_number Rule.if_else = 1
rule_number Rule.while = 2
rule_number Rule.return = 3
rule_number Rule.special_statement = 4
rule_number Rule.named_statement = 5
rule_number Rule.other_statement = 6
rule_number Rule.jump = 7
rule_number Rule.last_statement = 0
rule_number Rule.next_statement = 1
rule_number Rule.block = 0
rule_number Rule.no_else = 0
rule_number Rule.else_block = 1

-- ---- what begins a sort, and what may follow it

abbrev pub begins_plain : Kind → Bool
begins_plain kind = has c.Prefix kind || (has c.Measure kind || (has c.AnyNumber kind || same k.LeftParen kind))

abbrev pub begins_expression : Kind → Bool
begins_expression kind = has c.AnyName kind || begins_plain kind

abbrev pub begins_statement : Bool → Kind → Bool
begins_statement true kind = same k.Semicolon kind || (same k.If kind || (same k.While kind || (same k.Return kind || (has c.Reserved kind || (has c.Jump kind || begins_expression kind)))))
begins_statement false kind = same k.Semicolon kind || (same k.If kind || (same k.While kind || (same k.Return kind || (has c.Reserved kind || begins_expression kind))))

abbrev pub begins_value : Kind → Bool
begins_value kind = has c.AnyNumber kind || (same k.Minus kind || same k.And kind)

abbrev pub begins : Sort → Kind → Bool
begins FnSection kind = has c.TypeWord kind
begins StructSection kind = same k.Struct kind
begins GlobalSection kind = has c.TypeWord kind
begins Function kind = has c.TypeWord kind
begins Parameters kind = has c.TypeWord kind
begins AfterVoid kind = same k.RightParen kind || (same k.Star kind || has c.AnyName kind)
begins MoreParameters kind = same k.RightParen kind || same k.Comma kind
begins Declarations kind = has c.TypeWord kind
begins Type_ kind = has c.TypeWord kind
begins Filled kind = has c.FilledType kind || same k.Struct kind
begins VoidType kind = same k.Star kind
begins Stars kind = same k.Star kind
begins Expression kind = begins_expression kind
begins Operations kind = has c.Binary kind
begins Unary kind = begins_expression kind
begins Plain kind = begins_plain kind
begins AfterParen kind = has c.TypeWord kind || begins_expression kind
begins Postfixes kind = has c.Member kind || same k.LeftBracket kind
begins Arguments kind = same k.RightParen kind || begins_expression kind
begins MoreArguments kind = same k.RightParen kind || same k.Comma kind
begins Special kind = has c.Reserved kind
begins Right kind = has c.Reserved kind || begins_expression kind
begins AfterTarget kind = same k.LeftParen kind || (has c.Member kind || (same k.LeftBracket kind || (has c.Binary kind || same k.Semicolon kind)))
begins AfterName kind = same k.LeftParen kind || (has c.Member kind || (same k.LeftBracket kind || (has c.Binary kind || same k.Assign kind)))
begins Returned kind = same k.Semicolon kind || begins_expression kind
begins Fields kind = same k.RightBrace kind || has c.TypeWord kind
begins Length kind = same k.LeftBracket kind
begins Initial kind = same k.Assign kind
begins Initials kind = same k.LeftBrace kind || begins_value kind
begins InitValue kind = begins_value kind
begins (MoreValues _) kind = same k.RightBrace kind || same k.Comma kind
begins (Statement inside) kind = begins_statement inside kind
begins (Statements inside) kind = same k.RightBrace kind || begins_statement inside kind
begins (Block _) kind = same k.LeftBrace kind
begins (Otherwise _) kind = same k.Else kind

abbrev pub follows_expression : Kind → Bool
follows_expression kind = same k.Assign kind || (same k.Semicolon kind || (same k.RightParen kind || (same k.RightBracket kind || same k.Comma kind)))

abbrev pub follows_statement : Kind → Bool
follows_statement kind = same k.RightBrace kind || begins_statement true kind

abbrev pub follows : Sort → Kind → Bool
follows FnSection kind = same k.End kind
follows StructSection kind = same k.End kind
follows GlobalSection kind = same k.End kind
follows Function kind = same k.EndLine kind
follows Parameters kind = same k.LeftBrace kind
follows AfterVoid kind = same k.LeftBrace kind
follows MoreParameters kind = same k.LeftBrace kind
follows Declarations kind = same k.RightBrace kind || begins_statement false kind
follows Type_ kind = has c.AnyName kind || same k.RightParen kind
follows Filled kind = has c.AnyName kind
follows VoidType kind = has c.AnyName kind
follows Stars kind = has c.AnyName kind || same k.RightParen kind
follows Expression kind = follows_expression kind
follows Operations kind = follows_expression kind
follows Unary kind = has c.Binary kind || follows_expression kind
follows Plain kind = has c.Binary kind || follows_expression kind
follows AfterParen kind = has c.Binary kind || follows_expression kind
follows Postfixes kind = has c.Binary kind || follows_expression kind
follows Arguments kind = same k.Semicolon kind
follows MoreArguments kind = same k.Semicolon kind
follows Special kind = same k.Semicolon kind
follows Right kind = follows_statement kind
follows AfterTarget kind = follows_statement kind
follows AfterName kind = follows_statement kind
follows Returned kind = follows_statement kind
follows Fields kind = same k.Semicolon kind
follows Length kind = same k.Semicolon kind || same k.Assign kind
follows Initial kind = same k.Semicolon kind
follows Initials kind = same k.Semicolon kind
follows InitValue kind = same k.Semicolon kind || (same k.RightBrace kind || same k.Comma kind)
follows (MoreValues _) kind = same k.Semicolon kind
follows (Statement inside) kind = same k.RightBrace kind || begins_statement inside kind
follows (Statements _) kind = same k.EndLine kind || (same k.Else kind || follows_statement kind)
follows (Block _) kind = same k.Else kind || follows_statement kind
follows (Otherwise inside) kind = same k.RightBrace kind || begins_statement inside kind

abbrev pub nullable : Sort → Bool
nullable Declarations = true
nullable VoidType = true
nullable Stars = true
nullable Operations = true
nullable Postfixes = true
nullable Length = true
nullable Initial = true
nullable (Otherwise _) = true
nullable _ = false

-- ---- how deeply a sort descends before its first token, and how it can be spelled

abbrev pub rank : Sort → ℕ
rank FnSection = 2
rank Function = 1
rank GlobalSection = 1
rank Parameters = 1
rank VoidType = 1
rank AfterVoid = 2
rank Declarations = 1
rank Unary = 1
rank Expression = 2
rank AfterParen = 3
rank Arguments = 3
rank Returned = 3
rank Right = 1
rank AfterTarget = 1
rank AfterName = 1
rank Fields = 1
rank Initials = 1
rank (Statement _) = 1
rank (Statements _) = 2
rank _ = 0

abbrev pub least : (S : Sort) → Rule S
least FnSection = Rule.fn_section
least StructSection = Rule.struct_section
least GlobalSection = Rule.global_section
least Function = Rule.function
least Parameters = Rule.void_first
least AfterVoid = Rule.no_parameter
least MoreParameters = Rule.last_parameter
least Declarations = Rule.no_declaration
least Type_ = Rule.simple_type
least Filled = Rule.filled_type
least VoidType = Rule.void_type
least Stars = Rule.no_star
least Expression = Rule.expression
least Operations = Rule.no_operation
least Unary = Rule.name
least Plain = Rule.number
least AfterParen = Rule.brackets
least Postfixes = Rule.no_postfix
least Arguments = Rule.no_argument
least MoreArguments = Rule.last_argument
least Special = Rule.library
least Right = Rule.special_source
least AfterTarget = Rule.called_source
least AfterName = Rule.called_statement
least Returned = Rule.no_value
least Fields = Rule.last_field
least Length = Rule.no_length
least Initial = Rule.no_initial
least Initials = Rule.one_value
least InitValue = Rule.positive_value
least (MoreValues _) = Rule.last_value
least (Statement _) = Rule.skip
least (Statements _) = Rule.last_statement
least (Block _) = Rule.block
least (Otherwise _) = Rule.no_else

abbrev pub height : Sort → ℕ
height FnSection = 3
height Function = 2
height StructSection = 1
height GlobalSection = 2
height Parameters = 1
height Type_ = 1
height Filled = 1
height VoidType = 1
height Unary = 1
height Plain = 1
height Expression = 2
height AfterParen = 3
height Special = 1
height Right = 2
height AfterTarget = 1
height AfterName = 1
height Initials = 1
height (Block _) = 1
height _ = 0

abbrev pub sample_kind : Class → Kind
sample_kind (c.One kind) = kind
sample_kind c.AnyName = k.Name
sample_kind c.AnyNumber = k.Number
sample_kind c.TypeWord = k.Int
sample_kind c.SimpleType = k.Int
sample_kind c.FilledType = k.Int
sample_kind c.Prefix = k.Minus
sample_kind c.Measure = k.SizeOf
sample_kind c.Binary = k.Plus
sample_kind c.Member = k.Dot
sample_kind c.Jump = k.Break
sample_kind c.Reserved = k.Library

abbrev pub sample : Class → Lexeme
sample class = record { kind = sample_kind class; place = 0; spelling = []; value = 0; is_unsigned = false }

abbrev pub tables : Tables grammar
tables = record {
  kinds = kinds;
  kind_number = kind_number;
  rules = rules;
  rule_number = λ {S} r. rule_number r;
  nullable = nullable;
  begins = begins;
  follows = follows;
  rank = rank;
  least = least;
  height = height;
  sample = sample;
}

-- ---- the laws

pub kind_listed : (kind : Kind) → nth kinds (kind_number kind) ≡ Some kind
kind_listed k.End = refl
kind_listed _ = refl

pub rule_listed : {S : Sort} (r : Rule S) → nth (rules S) (rule_number r) ≡ Some r
rule_listed (Rule.last_value {most = zero}) = refl
rule_listed (Rule.last_value {most = suc most}) = refl
rule_listed Rule.jump = refl
rule_listed (Rule.skip {inside = true}) = refl
rule_listed (Rule.skip {inside = false}) = refl
rule_listed (Rule.if_else {inside = true}) = refl
rule_listed (Rule.if_else {inside = false}) = refl
rule_listed (Rule.while {inside = true}) = refl
rule_listed (Rule.while {inside = false}) = refl
rule_listed (Rule.return {inside = true}) = refl
rule_listed (Rule.return {inside = false}) = refl
rule_listed (Rule.special_statement {inside = true}) = refl
rule_listed (Rule.special_statement {inside = false}) = refl
rule_listed (Rule.named_statement {inside = true}) = refl
rule_listed (Rule.named_statement {inside = false}) = refl
rule_listed (Rule.other_statement {inside = true}) = refl
rule_listed (Rule.other_statement {inside = false}) = refl
rule_listed _ = refl

pub sound : {S : Sort} (r : Rule S) → is_sound grammar tables r ≡ true
sound (Rule.last_value {most = zero}) = refl
sound (Rule.last_value {most = suc most}) = refl
sound (Rule.next_value {most = zero}) = refl
sound (Rule.next_value {most = suc most}) = refl
sound Rule.jump = refl
sound (Rule.skip {inside = true}) = refl
sound (Rule.skip {inside = false}) = refl
sound (Rule.if_else {inside = true}) = refl
sound (Rule.if_else {inside = false}) = refl
sound (Rule.while {inside = true}) = refl
sound (Rule.while {inside = false}) = refl
sound (Rule.return {inside = true}) = refl
sound (Rule.return {inside = false}) = refl
sound (Rule.special_statement {inside = true}) = refl
sound (Rule.special_statement {inside = false}) = refl
sound (Rule.named_statement {inside = true}) = refl
sound (Rule.named_statement {inside = false}) = refl
sound (Rule.other_statement {inside = true}) = refl
sound (Rule.other_statement {inside = false}) = refl
sound (Rule.last_statement {inside = true}) = refl
sound (Rule.last_statement {inside = false}) = refl
sound (Rule.next_statement {inside = true}) = refl
sound (Rule.next_statement {inside = false}) = refl
sound (Rule.block {inside = true}) = refl
sound (Rule.block {inside = false}) = refl
sound (Rule.no_else {inside = true}) = refl
sound (Rule.no_else {inside = false}) = refl
sound (Rule.else_block {inside = true}) = refl
sound (Rule.else_block {inside = false}) = refl
sound _ = refl

pub begins_end : (S : Sort) → begins S k.End ≡ false
begins_end (Statement true) = refl
begins_end (Statement false) = refl
begins_end (Statements true) = refl
begins_end (Statements false) = refl
begins_end _ = refl

pub rank_below : (S : Sort) → nat_lt (rank S) 4 ≡ true
rank_below FnSection = refl
rank_below _ = refl

pub lower_least : (S : Sort) → lower grammar tables (height S) (symbols (least S)) ≡ true
lower_least FnSection = refl
lower_least _ = refl

same-refl : (kind : Kind) → same kind kind ≡ true
same-refl k.End = refl
same-refl _ = refl

pub has_sample : (class : Class) → has class (sample_kind class) ≡ true
has_sample (c.One kind) = same-refl kind
has_sample _ = refl

abbrev pub laws : Laws grammar
laws = record {
  tables = tables;
  kind_listed = kind_listed;
  rule_listed = λ {S} r. rule_listed r;
  sound = λ {S} r. sound r;
  begins_end = begins_end;
  rank_below = rank_below;
  lower_least = lower_least;
  has_sample = has_sample;
}

-- the equation by which the code reads
pub read_is : (S : Sort) (ts : List Lexeme) → read S ts ≡ by_choice grammar read (choose S (kind_of ts)) ts
read_is = exact.read_is grammar laws
