-- Items taken out of a list and put in.
use Rattle.std.proofs.Common.{List, refl, arith}
use Rattle.vd_meaning.specs.Multisets.{Takes, take_first, take_later, Permuted, same_none, same_more}
use Rattle.vd_meaning.specs.Shares.{Shares, ◌⊕◌, ◌≐◌}
use Rattle.vd_meaning.specs.Meaning.{World}
use Rattle.vd_meaning.specs.Satisfaction.{Ground, Sat, Sats, sats_more}
use Rattle.vd_meaning.specs.ResourceLaws.{OrderIsFree}

module _ (world : World) where
  put_in : {gs hs : List Ground} {g : Ground} (a c r : Shares) → Takes gs g hs → Sat world g a → Sats world hs c → r ≐ a ⊕ c → Sats world gs r
  put_in a c r take_first s ss e = sats_more a c s ss e
  put_in a c r (take_later t) s (sats_more d f s' ss' e') e =
      sats_more d (a ⊕ f) s' (put_in a f (a ⊕ f) t s ss' (λ b o k. refl)) (λ b o k. omega (arith, e b o k, e' b o k))

  permuted : {gs hs : List Ground} (r : Shares) → Permuted gs hs → Sats world gs r → Sats world hs r
  permuted r same_none s = s
  permuted r (same_more t p) (sats_more a c s ss e) = put_in a c r t s (permuted c p ss) e

pub order_is_free : OrderIsFree
order_is_free world gs hs r p s = permuted world r p s
