-- `xml_values::time_of` meets its contract: if the text is formed, its digits are where they are read.
use Rattle.xml_model.specs.Values.{value_if, time_if, time_of}
use Rattle.xml_values.proofs.Numbers.{time-digits}
use Rattle.xml_values.proofs.time_of.Goals as goal

pub returns-then-not-time_formed : goal.returns-then-not-time_formed
unfolding time_of time_if value_if
returns-then-not-time_formed c =
    let f = c.time_formed in
    rw (← f.ensures, c.if-not-time_formed.true)

pub four_digits-year-requires : goal.four_digits-year-requires
four_digits-year-requires c = (time-digits c.args.v.now c.time_formed.ensures c.if-not-time_formed.false).0

pub two_digits-month-requires : goal.two_digits-month-requires
two_digits-month-requires c =
    let s = c.before in
    (time-digits s.args.v.now s.time_formed.ensures s.if-not-time_formed.false).1

pub two_digits-day-requires : goal.two_digits-day-requires
two_digits-day-requires c =
    let s = c.before in
    (time-digits s.args.v.now s.time_formed.ensures s.if-not-time_formed.false).2

pub two_digits-hour-requires : goal.two_digits-hour-requires
two_digits-hour-requires c =
    let s = c.before in
    (time-digits s.args.v.now s.time_formed.ensures s.if-not-time_formed.false).3

pub two_digits-minute-requires : goal.two_digits-minute-requires
two_digits-minute-requires c =
    let s = c.before in
    (time-digits s.args.v.now s.time_formed.ensures s.if-not-time_formed.false).4

pub two_digits-second-requires : goal.two_digits-second-requires
two_digits-second-requires c =
    let s = c.before in
    (time-digits s.args.v.now s.time_formed.ensures s.if-not-time_formed.false).5

pub returns : goal.returns
unfolding time_of
returns c =
    let s = c.before in
    let n = s.before in
    let f = n.time_formed in
    rw (
      c.time_if.ensures,
      c.seconds_at.ensures,
      c.time_real-good.ensures,
      s.two_digits-second.ensures,
      s.two_digits-minute.ensures,
      s.two_digits-hour.ensures,
      s.two_digits-day.ensures,
      s.two_digits-month.ensures,
      n.four_digits-year.ensures,
      ← f.ensures,
      n.if-not-time_formed.false,
    )
