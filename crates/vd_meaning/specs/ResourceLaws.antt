-- What is true of resources.
use Rattle.std.specs.Prelude.{◌≡◌, List, None, Some}
use Rattle.vd_mem.specs.Memory.{Block}
use Rattle.vd_meaning.specs.Shares.{Shares, ◌⊕◌, ◌≐◌}
use Rattle.vd_meaning.specs.Resource.{Resource, join, IsMap, shares_of, IsResource}
use Rattle.vd_meaning.specs.Fits.{Fits}
use Rattle.vd_meaning.specs.Meaning.{World}
use Rattle.vd_meaning.specs.Satisfaction.{Ground, Sats}
use Rattle.vd_meaning.specs.Multisets.{Permuted}

-- what a memory is fitted by is a resource: its contents agree, and no share is past 64
abbrev pub FittingIsResource : Type 0
FittingIsResource = (m : List Block) (r : Shares) → Fits m r → IsResource r

-- a part of what fits fits
abbrev pub PartsFit : Type 0
PartsFit = (m : List Block) (r q : Shares) → Fits m (r ⊕ q) → Fits m r

-- the shares of a map are a resource
abbrev pub MapsAreResources : Type 0
MapsAreResources = (r : Resource) → IsMap r → IsResource (shares_of r)

-- a join has the shares of both, and is a map
abbrev pub JoinsAdd : Type 0
JoinsAdd = (a c r : Resource) → IsMap a → IsMap c → join a c ≡ Some r → IsMap r × (shares_of r ≐ shares_of a ⊕ shares_of c)

-- there is none only where the shares of both together are no resource. With the two laws before: exactly where contents differ or shares
-- pass 64.
abbrev pub JoinsFail : Type 0
JoinsFail = (a c : Resource) → IsMap a → IsMap c → join a c ≡ None → IsResource (shares_of a ⊕ shares_of c) → ⊥

-- items in another order are satisfied alike
abbrev pub OrderIsFree : Type 0
OrderIsFree = (world : World) (gs hs : List Ground) (r : Shares) → Permuted gs hs → Sats world gs r → Sats world hs r
