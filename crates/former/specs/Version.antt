-- Versions of the definitions. Document 02 says in requests 1, 3, 7 and 8 what was before. "Former" means here: by the definitions of today but
-- for that request, with all later ones in; not by those that stood at its time. Definitions only.
use Rattle.std.specs.Prelude.{Bool, true, false}

-- which of the four requests a version has; all others it has
pub record Version : Type 0 where
  -- request 1, "Following a target"
  pub targets : Bool
  -- request 3, "Limits that change along the horizon"
  pub horizon : Bool
  -- request 7, "Nearest rounding for the tables"
  pub nearest : Bool
  -- request 8, "Distance from the best sequence"
  pub distance : Bool

abbrev pub today : Version
today = record { targets = true; horizon = true; nearest = true; distance = true }

abbrev pub before_targets : Version
before_targets = record { targets = false; horizon = true; nearest = true; distance = true }

abbrev pub before_horizon : Version
before_horizon = record { targets = true; horizon = false; nearest = true; distance = true }

abbrev pub before_nearest : Version
before_nearest = record { targets = true; horizon = true; nearest = false; distance = true }

abbrev pub before_distance : Version
before_distance = record { targets = true; horizon = true; nearest = true; distance = false }
