-- A form as the code has it.
use Rattle.std.specs.Prelude.{◌≡◌, ◌≤◌}
use Rattle.forms.specs.declared.Form.{Form}

-- r is this form, and within the bounds of every call.
pub record Formed (r f : Form) : Type 0 where
  pub is : r ≡ f
  pub few : r.takes ≤ 7
  pub short : r.gives ≤ 18
