-- What a note makes of the lists so far.
use Rattle.vd_layout.specs.RingLists.{RingLists, and_offered, after_driver, after_device}
use Rattle.vd_layout.specs.declared.history.Note.{Note}
use Rattle.vd_layout.specs.declared.history.Note.TheVariants.{Offered, Driver, Device}

abbrev pub noted : Note → RingLists → RingLists
noted (Offered c) h = and_offered c.now h
noted (Driver x) h = after_driver x.now h
noted (Device x n) h = after_device x.now n h
