-- `image_meters::entry_meters_legal` meets its contract: its tests are the definition's. The open uses are counted by their marks.
use Rattle.rules.specs.Uses.{uses-marked}
use Rattle.model.specs.Book.{entry_meters_legal}
use Rattle.rules.specs.Rules.{flags_of}
use borrow.Author.Rules.{rules}
use Rattle.image_meters.proofs.entry_meters_legal.Goals as goal

pub returns : goal.returns
unfolding entry_meters_legal flags_of
returns c =
    let at-seconds = c.before in
    let at-marks = at-seconds.before in
    rw (
      c.marks_legal.ensures,
      c.meters_cover.ensures,
      c.start_legal.ensures,
      c.meter_legal-3.ensures,
      c.meter_legal-2.ensures,
      c.meter_legal.ensures,
      at-seconds.open_seconds-seconds.ensures,
      at-seconds.ones-uses.ensures,
      at-marks.marks_of-marks.ensures,
      uses-marked,
      at-marks.flags_of-f.ensures,
    )
