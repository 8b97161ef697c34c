-- What a fault means, told of the file of which it tells.
use Rattle.programs.proofs.meanings.tell_meaning.Goals as goal

pub returns : goal.returns
returns g c =
    let told = rw c.file_told.ensures at c.tell_line.ensures in
    rw c.meaning_for.ensures at told
