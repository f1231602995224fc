-- Why a file was not written.
--     stop_of fail           what a write that failed is answered by
use Rattle.move_files.specs.declared.outside.WriteFail.{WriteFail}
use Rattle.move_files.specs.declared.outside.WriteFail.TheVariants as fail
use Rattle.network_codec.specs.declared.damage.EncodeStop.{EncodeStop}
use Rattle.network_codec.specs.declared.damage.EncodeStop.TheVariants as stop

abbrev pub stop_of : WriteFail → EncodeStop
stop_of fail.Failed = stop.WriteFault
stop_of fail.NoMemory = stop.NoMemory
