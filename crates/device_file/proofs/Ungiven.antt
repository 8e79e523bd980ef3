-- A file that was just opened, of which no look gives zero for its first byte. So no caller proves, of each file that it opens, that
-- looks gave bytes which it did not read.
use Rattle.std.proofs.Common.{ℕ, List, [], ◌∷◌, refl, arith}
use Rattle.medium.specs.declared.file_call.Access.{Access}
use Rattle.medium.specs.declared.file_call.FileCall.TheVariants.{Open, Lock, Measure}
use Rattle.device_file.specs.Asked.{begun}
use Rattle.device_file.specs.FileValue.{FileValue, HasGiven, IsOpened}

pub ungiven : (path : List ℕ) (access : Access) → (v : FileValue) × IsOpened path access v × ¬ HasGiven v 0 (0 ∷ [])
ungiven path access = (
  record {
    size = 0;
    told = begun path access;
    file = record {
      path = path;
      runs = [];
      size = 0;
      asked = Open access ∷ Lock ∷ Measure ∷ [];
      refusals = 0;
      looks = record { ungiven = (0, 0) ∷ []; unmissed = [] };
    };
  },
  record { told_is = refl; path_is = refl; asked = refl; size_is = refl },
  λ given. given 0 (omega arith) (0, omega arith, refl),
)
