-- Each call from the numbers of a list, in the order of a line or of a table.
use Rattle.std.specs.Prelude.{List, ℕ, ℤ, pos, get_or}
use Rattle.daybook.specs.declared.NewRegister.{NewRegister}
use Rattle.daybook.specs.declared.Opening.{Opening}
use Rattle.daybook.specs.declared.EnergyNotice.{EnergyNotice}
use Rattle.daybook.specs.declared.StatusNotice.{StatusNotice}
use Rattle.daybook.specs.declared.TransferRequest.{TransferRequest}
use Rattle.daybook.specs.declared.Withdrawal.{Withdrawal}
use Rattle.daybook.specs.declared.Correction.{Correction}
use Rattle.daybook.specs.declared.AccountQuery.{AccountQuery}
use Rattle.daybook.specs.declared.AllocationQuery.{AllocationQuery}

-- Number i, 0 where the list is shorter.
abbrev pub num : List ℤ → ℕ → ℤ
num xs i = get_or xs i (pos 0)

abbrev pub new_register_of : List ℤ → NewRegister
new_register_of xs = record { nondaily = num xs 0; daily = num xs 1; edition = num xs 2 }

abbrev pub opening_of : List ℤ → Opening
opening_of xs =
    record {
      mirn = num xs 0;
      kind = num xs 1;
      user = num xs 2;
      install = num xs 3;
      base = num xs 4;
      section = num xs 5;
      operator = num xs 6;
    }

abbrev pub energy_notice_of : List ℤ → EnergyNotice
energy_notice_of xs =
    record {
      mirn = num xs 0;
      start = num xs 1;
      end = num xs 2;
      energy = num xs 3;
      type_ = num xs 4;
      confirmed = num xs 5;
    }

abbrev pub status_of : List ℤ → StatusNotice
status_of xs = record { mirn = num xs 0; day = num xs 1; on = num xs 2 }

-- The holidays are a list of their own.
abbrev pub request_of : List ℤ → TransferRequest
request_of xs = record { mirn = num xs 0; user = num xs 1; proposed = num xs 2; nochange = num xs 3 }

abbrev pub withdrawal_of : List ℤ → Withdrawal
withdrawal_of xs = record { mirn = num xs 0; user = num xs 1 }

abbrev pub correction_of : List ℤ → Correction
correction_of xs = record { mirn = num xs 0; user = num xs 1; day = num xs 2; notice = num xs 3 }

abbrev pub account_query_of : List ℤ → AccountQuery
account_query_of xs = record { user = num xs 0; from = num xs 1; to = num xs 2 }

abbrev pub allocation_query_of : List ℤ → AllocationQuery
allocation_query_of xs =
    record { gasday = num xs 0; from = num xs 1; to = num xs 2; tdq = num xs 3; uag = num xs 4; clp = num xs 5 }
