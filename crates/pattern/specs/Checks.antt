-- Parts of the checks of an opening.
-- Assumes nothing.
use Rattle.std.specs.Prelude.{ℕ, ◌+◌, ltb}
use Rattle.model.specs.declared.Word.TheVariants.{Cap, NoSplit}
use Rattle.model.specs.declared.Caps.{Caps}
use Rattle.model.specs.Refusal.{Verdict, refuse, ◌then◌}
use Rattle.model.specs.Split.{caps_outside}

-- 11, 12: either cap outside its range; N above their sum
unfoldable pub caps_verdict : ℕ → Caps → Verdict
caps_verdict nonzeros caps =
    refuse (caps_outside caps) Cap 0
    then refuse (ltb (caps.cap0 + caps.cap1) nonzeros) NoSplit 0
