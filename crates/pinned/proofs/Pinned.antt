-- The member of the claims, by the type that `claims/specs` states: a type of the same name in `claims/proofs` would not be this one.
use Rattle.claims.specs.Claims.{Claims}
use Rattle.claims.proofs.ProvedClaims as proved

pub all : Claims
all = proved.claims
