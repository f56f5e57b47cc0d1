-- A text with room gets longer, a full one stays.
-- Assumes nothing.
use Rattle.text.proofs.Texts.{with-room, without-room}
use Rattle.text.proofs.lines.Text.with_byte.Goals as goal

pub returns-then-self-lt-ROOM : goal.returns-then-self-lt-ROOM
returns-then-self-lt-ROOM c = with-room c.args.self c.args.b c.if-self-lt-ROOM.true

pub returns-else-self-lt-ROOM : goal.returns-else-self-lt-ROOM
returns-else-self-lt-ROOM c = without-room c.args.self c.args.b c.if-self-lt-ROOM.false
