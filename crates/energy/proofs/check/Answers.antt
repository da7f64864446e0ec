use Rattle.std.proofs.Common.{◌≡◌, false, not, sym, ◌∙◌, ap, arith}
use Rattle.energy.proofs.Refusals.{row6, row7, row8, row9, row6_is, row7_is, row8_is, row9_is, row16_is, sent_6, sent_7, sent_8, sent_9, sent_16, sent_not}
use Rattle.energy.proofs.check.Goals as goal

pub returns-then-not-fits_kind : goal.returns-then-not-fits_kind
returns-then-not-fits_kind c =
    let s = c.args in
    sent_6 s.x s.nondaily s.daily s.part.now.numbers.now (sym (row6_is s.part.now.is_sound s.x _ c.kind-kind.ensures.0 c.fits_kind.ensures) ∙ ap not c.if-not-fits_kind.true)

pub returns-then-append-append_day : goal.returns-then-append-append_day
returns-then-append-append_day c =
    let s = c.args in
    let e6 : row6 s.x s.part.now.numbers.now ≡ false = sym (row6_is s.part.now.is_sound s.x _ c.kind-kind.ensures.0 c.fits_kind.ensures) ∙ ap not c.if-not-fits_kind.false in
    sent_7 s.x s.nondaily s.daily s.part.now.numbers.now e6 (sym (row7_is s.part.now.is_sound s.x c.appends-append.ensures _ (omega arith) c.append_day.ensures) ∙ c.if-append-append_day.true)

pub returns-then-not-no_off : goal.returns-then-not-no_off
returns-then-not-no_off c =
    let s = c.args in
    let e6 : row6 s.x s.part.now.numbers.now ≡ false = sym (row6_is s.part.now.is_sound s.x _ c.kind-kind.ensures.0 c.fits_kind.ensures) ∙ ap not c.if-not-fits_kind.false in
    let e7 : row7 s.x s.part.now.numbers.now ≡ false = sym (row7_is s.part.now.is_sound s.x c.appends-append.ensures _ (omega arith) c.append_day.ensures) ∙ c.if-append-append_day.false in
    sent_8 s.x s.nondaily s.daily s.part.now.numbers.now e6 e7 (sym (row8_is s.part.now.is_sound s.x _ e6 (omega arith) c.spans-spans.ensures.0 c.no_off.ensures) ∙ ap not c.if-not-no_off.true)

pub returns-then-unusual-x : goal.returns-then-unusual-x
returns-then-unusual-x c =
    let s = c.args in
    let e6 : row6 s.x s.part.now.numbers.now ≡ false = sym (row6_is s.part.now.is_sound s.x _ c.kind-kind.ensures.0 c.fits_kind.ensures) ∙ ap not c.if-not-fits_kind.false in
    let e7 : row7 s.x s.part.now.numbers.now ≡ false = sym (row7_is s.part.now.is_sound s.x c.appends-append.ensures _ (omega arith) c.append_day.ensures) ∙ c.if-append-append_day.false in
    let e8 : row8 s.x s.part.now.numbers.now ≡ false = sym (row8_is s.part.now.is_sound s.x _ e6 (omega arith) c.spans-spans.ensures.0 c.no_off.ensures) ∙ ap not c.if-not-no_off.false in
    sent_9 s.x s.nondaily s.daily s.part.now.numbers.now e6 e7 e8 (sym (row9_is s.part.now.is_sound s.x s.nondaily s.daily _ c.kind-kind.ensures.0 c.unusual.ensures) ∙ c.if-unusual-x.true)

pub returns-then-append-room : goal.returns-then-append-room
returns-then-append-room c =
    let s = c.args in
    let e6 : row6 s.x s.part.now.numbers.now ≡ false = sym (row6_is s.part.now.is_sound s.x _ c.kind-kind.ensures.0 c.fits_kind.ensures) ∙ ap not c.if-not-fits_kind.false in
    let e7 : row7 s.x s.part.now.numbers.now ≡ false = sym (row7_is s.part.now.is_sound s.x c.appends-append.ensures _ (omega arith) c.append_day.ensures) ∙ c.if-append-append_day.false in
    let e8 : row8 s.x s.part.now.numbers.now ≡ false = sym (row8_is s.part.now.is_sound s.x _ e6 (omega arith) c.spans-spans.ensures.0 c.no_off.ensures) ∙ ap not c.if-not-no_off.false in
    let e9 : row9 s.x s.nondaily s.daily s.part.now.numbers.now ≡ false = sym (row9_is s.part.now.is_sound s.x s.nondaily s.daily _ c.kind-kind.ensures.0 c.unusual.ensures) ∙ c.if-unusual-x.false in
    sent_16 s.x s.nondaily s.daily s.part.now.numbers.now e6 e7 e8 e9 (sym (row16_is s.part.now.is_sound s.x c.appends-append.ensures _ c.records.ensures.0) ∙ c.if-append-room.true)

pub returns : goal.returns
returns c =
    let s = c.args in
    let e6 : row6 s.x s.part.now.numbers.now ≡ false = sym (row6_is s.part.now.is_sound s.x _ c.kind-kind.ensures.0 c.fits_kind.ensures) ∙ ap not c.if-not-fits_kind.false in
    let e7 : row7 s.x s.part.now.numbers.now ≡ false = sym (row7_is s.part.now.is_sound s.x c.appends-append.ensures _ (omega arith) c.append_day.ensures) ∙ c.if-append-append_day.false in
    let e8 : row8 s.x s.part.now.numbers.now ≡ false = sym (row8_is s.part.now.is_sound s.x _ e6 (omega arith) c.spans-spans.ensures.0 c.no_off.ensures) ∙ ap not c.if-not-no_off.false in
    let e9 : row9 s.x s.nondaily s.daily s.part.now.numbers.now ≡ false = sym (row9_is s.part.now.is_sound s.x s.nondaily s.daily _ c.kind-kind.ensures.0 c.unusual.ensures) ∙ c.if-unusual-x.false in
    sent_not s.x s.nondaily s.daily s.part.now.numbers.now e6 e7 e8 e9 (sym (row16_is s.part.now.is_sound s.x c.appends-append.ensures _ c.records.ensures.0) ∙ c.if-append-room.false)
