-- Which units declare a name, as the code keeps it.
use Rattle.std.specs.Prelude.{◌≡◌, ℕ, ◌==◌, ◌&&◌, List, [], ◌∷◌, Option, None, Some, if◌then◌else◌}
use Rattle.std.specs.BTreeMap.{get_by}
use Rattle.std.specs.Cmp.Lexicographic.{slice_cmp}
use Rattle.std.specs.Ordering.{nat_cmp}
use Rattle.std.specs.Str.{bytes_eq}
use Rattle.vd_heads.specs.declared.table.Space.{Space}
use Rattle.vd_heads.specs.declared.table.Space.TheVariants as space
use Rattle.vd_heads.specs.Declaration.{Bytes, same_space}
use Rattle.vd_declared.specs.declared.declared.Declaration.{Declaration}
use Rattle.vd_declared.specs.declared.owners.Named.{Named}
use Rattle.vd_declared.specs.declared.owners.Owner.{Owner}
use Rattle.vd_declared.specs.declared.owners.Owner.TheVariants.{One, More}
use Rattle.vd_declared.specs.declared.owners.Owners.{Owners}

-- the owners of a name that one more unit declares
abbrev pub joined : Option Owner → ℕ → Owner
joined None unit = One unit
joined (Some (One known)) unit = if known == unit then One known else More
joined (Some More) unit = More

-- what is kept of a name in one name space
abbrev pub kept : Named → Bytes → Option Owner
kept n name = get_by (λ k. slice_cmp nat_cmp name k.now) n.by_name

-- what is kept of a name
abbrev pub owner_in : Owners → Space → Bytes → Option Owner
owner_in o space.Struct name = kept o.structs name
owner_in o space.Global name = kept o.globals name
owner_in o space.Function name = kept o.functions name
owner_in o space.Predicate name = kept o.predicates name

-- the owners of a name after these declarations, where before them it had those
abbrev pub owners_from : Option Owner → List Declaration → Space → Bytes → Option Owner
owners_from known [] s name = known
owners_from known (d ∷ ds) s name = owners_from (if same_space s d.space && bytes_eq d.name.now name then Some (joined known d.unit) else known) ds s name

-- the owners are those of these declarations
abbrev pub AreOwners : List Declaration → Owners → Type 0
AreOwners ds o = (s : Space) (name : Bytes) → owner_in o s name ≡ owners_from None ds s name
