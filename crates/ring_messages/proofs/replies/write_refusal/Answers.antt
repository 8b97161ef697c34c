use Rattle.ring_messages.proofs.replies.write_refusal.Goals as goal

pub returns-in-TooManyRings : goal.returns-in-TooManyRings
returns-in-TooManyRings c = rw c.in-TooManyRings.is c.write_refused-in-TooManyRings.ensures

pub returns-in-DeviceExists : goal.returns-in-DeviceExists
returns-in-DeviceExists c = rw c.in-DeviceExists.is c.write_refused-in-DeviceExists.ensures

pub returns-in-TooManyDevices : goal.returns-in-TooManyDevices
returns-in-TooManyDevices c = rw c.in-TooManyDevices.is c.write_refused-in-TooManyDevices.ensures

pub returns-in-NotAssigned : goal.returns-in-NotAssigned
returns-in-NotAssigned c = rw c.in-NotAssigned.is c.write_refused-in-NotAssigned.ensures

pub returns-in-TooManyVersions : goal.returns-in-TooManyVersions
returns-in-TooManyVersions c = rw c.in-TooManyVersions.is c.write_refused-in-TooManyVersions.ensures

pub returns-in-PowerLimit : goal.returns-in-PowerLimit
returns-in-PowerLimit c = rw c.in-PowerLimit.is c.write_refused-in-PowerLimit.ensures
