-- What the reasons rest on. Assumes nothing.
use mathlib.Core.Path.{◌≡◌, refl}
use mathlib.Core.Bool.{Bool, true, false, cond}
use Rattle.coordinator.specs.Message.{none, data_only, all, gets_data}

-- With the commits the data get there too, and by themselves they do where they reach.
pub with_commits : (b : Bool) → gets_data (cond b all data_only) ≡ true
unfolding gets_data
with_commits true = refl
with_commits false = refl

pub data_alone : (b : Bool) → gets_data (cond b data_only none) ≡ b
unfolding gets_data
data_alone true = refl
data_alone false = refl
