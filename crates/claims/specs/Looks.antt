-- The domain rule is not vacuous. On document 01's example board (N 4, F 8, grants 0x3 and 0xC, an empty table of zeros), to domain 0: two
-- histories that do not look the same, because the map differs; two different ones that do; two that differ in the colours alone, and two in the quota.
use Rattle.std.specs.Prelude.{List, [], ◌∷◌}
use Rattle.isolation.specs.DomainRule.{Call, Look, Fault, Release, Recolour, SetQuota, run, own, LookTheSame, SameColours, SameMap, Accepted, Empty}
use Rattle.examples.specs.Table.{recorder}

-- the left side of the rule, and the two parts of its right side
abbrev pub LookAlike : List Call → List Call → Type 0
LookAlike h k = LookTheSame 0 (run recorder h) (run recorder k)

abbrev pub ColoursAlike : List Call → List Call → Type 0
ColoursAlike h k = SameColours 0 (run recorder (own 0 h)) (run recorder (own 0 k))

abbrev pub MapsAlike : List Call → List Call → Type 0
MapsAlike h k = SameMap 0 (run recorder (own 0 h)) (run recorder (own 0 k))

-- page 9 gets a frame, and nothing happens
abbrev pub faulted : List Call
faulted = Fault 0 9 ∷ []

abbrev pub nothing : List Call
nothing = []

-- page 9 gets frame 0, with one frame for domain 1; and by another way, with two frames and a quota for domain 1 and calls that are refused
abbrev pub straight : List Call
straight = Fault 0 9 ∷ Fault 1 0 ∷ []

abbrev pub roundabout : List Call
roundabout = Look 0 9 ∷ Fault 1 3 ∷ SetQuota 1 2 ∷ Fault 0 9 ∷ Fault 0 1 ∷ SetQuota 0 1 ∷ Fault 2 7 ∷ Fault 1 0 ∷ Release 0 1 ∷ Release 0 1 ∷ []

-- colour 1 is given up before any page has a frame
abbrev pub recoloured : List Call
recoloured = Recolour 0 0x1 [] ∷ []

-- domain 0 may hold three frames
abbrev pub allowed : List Call
allowed = SetQuota 0 3 ∷ []

pub record LookClaims : Type 0 where
  -- There is a start: the rule speaks of something.
  pub accepted : Accepted recorder
  pub empty : Empty recorder
  -- The right side is false, for the map, and so is the left.
  pub maps_differ : MapsAlike faulted nothing → ⊥
  pub colours_agree : ColoursAlike faulted nothing
  pub do_not_look_alike : LookAlike faulted nothing → ⊥
  -- The right side is true of two different histories, and so is the left.
  pub all_agree : ColoursAlike straight roundabout × MapsAlike straight roundabout
  pub look_alike : LookAlike straight roundabout
  -- The colours alone differ, and that is enough.
  pub colours_differ : ColoursAlike recoloured nothing → ⊥
  pub maps_agree : MapsAlike recoloured nothing
  pub told_apart_by_colours : LookAlike recoloured nothing → ⊥
  -- The quota alone differs, and that is enough.
  pub quotas_differ : ColoursAlike allowed nothing → ⊥
  pub maps_still_agree : MapsAlike allowed nothing
  pub told_apart_by_quotas : LookAlike allowed nothing → ⊥
