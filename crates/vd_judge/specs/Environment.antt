-- What the names of a function stand for.
use Rattle.std.specs.Prelude.{ℕ, ◌+◌, cond, List, [], ◌∷◌, Option, None, Some, option_map, option_and_then, length, map, slice_get}
use Rattle.std.specs.Option.{option_or}
use Rattle.std.specs.Str.{bytes_eq}
use Rattle.vd_base.specs.declared.ctype.CType.{CType}
use Rattle.vd_base.specs.declared.ctype.Field.{Field}
use Rattle.vd_base.specs.Layout.{Table}
use Rattle.vd_clight.specs.declared.program.Signature.{Signature}

-- the parameters and temporaries of a function, what it returns, and the globals, functions and structs that its section sees
pub record Environment : Type 0 where
  pub params : List Field
  pub temps : List Field
  pub returned : CType
  pub globals : List (List ℕ × CType)
  pub functions : List Signature
  pub structs : Table

-- ---- names

-- the number of the first such name in a list, from 0
abbrev pub number_of : List (List ℕ) → List ℕ → Option ℕ
number_of [] name = None
number_of (n ∷ ns) name = cond (bytes_eq n name) (Some 0) (option_map (λ k. k + 1) (number_of ns name))

abbrev pub names_of : List Field → List (List ℕ)
names_of fields = map (λ f. f.name) fields

abbrev pub global_names : List (List ℕ × CType) → List (List ℕ)
global_names globals = map (λ g. g.0) globals

abbrev pub function_names : List Signature → List (List ℕ)
function_names functions = map (λ f. f.name) functions

-- ---- what a name stands for

-- the number and the type of the first of some variables of that name, which are numbered from a base
abbrev pub local_in : ℕ → List Field → List ℕ → Option (ℕ × CType)
local_in base fields name = option_and_then (λ k. option_map (λ f. (base + k, f.typ)) (slice_get fields k)) (number_of (names_of fields) name)

-- a parameter, else a temporary; the temporaries are numbered behind the parameters
abbrev pub local_of : Environment → List ℕ → Option (ℕ × CType)
local_of env name = option_or (local_in 0 env.params name) (local_in (length env.params) env.temps name)

-- the type of a global
abbrev pub global_of : Environment → List ℕ → Option CType
global_of env name = option_and_then (λ k. option_map (λ g. g.1) (slice_get env.globals k)) (number_of (global_names env.globals) name)

abbrev pub function_of : Environment → List ℕ → Option Signature
function_of env name = option_and_then (slice_get env.functions) (number_of (function_names env.functions) name)
