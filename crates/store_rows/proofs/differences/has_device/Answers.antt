use Rattle.std.proofs.Common.{ap, sym, ◌∙◌, Some}
use Rattle.std.specs.Option.{option_copied, option_map}
use Rattle.store_rows.specs.Differences.{has_same, is_same_device}
use Rattle.store_rows.specs.Inner.Lacking.{device_value}
use Rattle.store_rows.proofs.Sameness.{found_device}
use Rattle.store_rows.proofs.differences.has_device.Goals as goal

pub returns-in-Some : goal.returns-in-Some
returns-in-Some c =
    found_device (Some c.in-Some.other.now) c.args.device.now c.is_same_device.result
    (c.is_same_device.ensures.same, c.is_same_device.ensures.addresses) (λ none. cc)
    ∙ ap (λ o. has_same is_same_device (option_map device_value o) (device_value c.args.device.now))
    (sym (ap option_copied c.in-Some.is) ∙ c.find_device.ensures)

pub returns-in-None : goal.returns-in-None
returns-in-None c = ap (λ o. has_same is_same_device (option_map device_value o)
    (device_value c.args.device.now)) (sym (ap option_copied c.in-None.is) ∙ c.find_device.ensures)
