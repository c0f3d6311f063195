-- Which calls fail of the objects in memory.
use Rattle.std.specs.Prelude.{◌≡◌, []}
use Rattle.lib_base.specs.Plan.{Plan}
use Rattle.lib_base.specs.declared.doors.MemDoor.{MemDoor}
use Rattle.lib_base.specs.declared.sinks.MemSink.{MemSink}
use Rattle.lib_base.specs.declared.sources.MemSource.{MemSource}

-- which reads of a source in memory fail
abbrev pub source_plan : MemSource → Plan
source_plan source = source.plan

-- which writes of a sink in memory fail
abbrev pub sink_plan : MemSink → Plan
sink_plan sink = sink.plan

-- which calls of a door in memory fail
abbrev pub door_plan : MemDoor → Plan
door_plan door = door.plan

-- no connection is left
abbrev pub IsDone : MemDoor → Type 0
IsDone door = door.waiting.items ≡ []
