-- Which command an act or a deed is of.
use Rattle.ring_words.specs.declared.command.Act.{Act}
use Rattle.ring_words.specs.declared.command.Act.TheVariants as act
use Rattle.ring_words.specs.declared.command.Deed.{Deed}
use Rattle.ring_words.specs.declared.command.Deed.TheVariants as deed
use Rattle.ring_words.specs.declared.command.DeviceAct.{DeviceAct}
use Rattle.ring_words.specs.declared.command.DeviceAct.TheVariants as device_act
use Rattle.ring_words.specs.declared.command.Kind.{Kind}
use Rattle.ring_words.specs.declared.command.Kind.TheVariants.{Create, Add, SetWeight, Remove}
use Rattle.ring_words.specs.declared.command.Kind.TheVariants.{SetHours, PretendPassed, RaisePower}
use Rattle.ring_words.specs.declared.command.Kind.TheVariants.{Import, Publish, Rebalance}
use Rattle.ring_words.specs.declared.command.Kind.TheVariants.{Keep, RebalanceAs}

-- The command that did this.
abbrev pub deed_kind : Deed → Kind
deed_kind deed.Create = Create
deed_kind (deed.Add id) = Add
deed_kind deed.SetWeight = SetWeight
deed_kind deed.Remove = Remove
deed_kind deed.Keep = Keep
deed_kind deed.SetHours = SetHours
deed_kind deed.PretendPassed = PretendPassed
deed_kind deed.RaisePower = RaisePower
deed_kind (deed.Import added reweighted) = Import
deed_kind deed.Publish = Publish
deed_kind (deed.Rebalance balance changed dispersion) = Rebalance
deed_kind (deed.RebalanceAs balance changed dispersion) = RebalanceAs

-- What was done where this was done to a device.
abbrev pub device_deed : DeviceAct → Deed
device_deed (device_act.SetWeight weight) = deed.SetWeight
device_deed device_act.Remove = deed.Remove
device_deed device_act.Keep = deed.Keep

-- The command that does this.
abbrev pub act_kind : Act → Kind
act_kind (act.Create new) = Create
act_kind (act.Add row) = Add
act_kind (act.OnDevice id what) = deed_kind (device_deed what)
act_kind (act.SetHours hours) = SetHours
act_kind act.PretendPassed = PretendPassed
act_kind act.RaisePower = RaisePower
act_kind (act.Import rows) = Import
act_kind act.Publish = Publish
act_kind (act.Rebalance seed) = Rebalance
act_kind (act.RebalanceAs told) = RebalanceAs
