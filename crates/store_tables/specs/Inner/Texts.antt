-- The texts of the statements.
use Rattle.std.specs.Prelude.{codes, List, ℕ, [], ◌∷◌, ◌++◌, slice_index_or}

abbrev pub put_meta : List ℕ
put_meta =
    codes "INSERT OR REPLACE INTO meta VALUES (?1, ?2, ?3)"

abbrev pub set_meta : List ℕ
set_meta =
    codes "UPDATE meta SET schema = ?2, hour = ?3 WHERE one = ?1"

abbrev pub list_meta : List ℕ
list_meta = codes "SELECT * FROM meta ORDER BY one"

abbrev pub put_ring : List ℕ
put_ring =
    codes "INSERT OR REPLACE INTO ring VALUES (?1, ?2, ?3, ?4, ?5, ?6)"

abbrev pub set_ring : List ℕ
set_ring =
    codes "UPDATE ring SET power = ?2, replicas = ?3, min_hours = ?4, next_id = ?5, version = ?6 "
    ++ codes "WHERE name = ?1"

abbrev pub list_ring : List ℕ
list_ring = codes "SELECT * FROM ring ORDER BY name"

abbrev pub put_device : List ℕ
put_device =
    codes "INSERT INTO device VALUES (?1, ?2, ?3, ?4, ?5, ?6, ?7, ?8, ?9)"

abbrev pub list_device : List ℕ
list_device = codes "SELECT * FROM device ORDER BY ring, id"

abbrev pub list_seat : List ℕ
list_seat = codes "SELECT * FROM seat ORDER BY ring, part, replica"

abbrev pub list_moved : List ℕ
list_moved = codes "SELECT * FROM moved ORDER BY ring, part"

abbrev pub put_published : List ℕ
put_published =
    codes "INSERT OR REPLACE INTO published VALUES (?1, ?2, ?3)"

abbrev pub list_published : List ℕ
list_published = codes "SELECT * FROM published ORDER BY ring, version"

abbrev pub put_request : List ℕ
put_request =
    codes "INSERT INTO request VALUES (?1, ?2, ?3, ?4, ?5, ?6)"

abbrev pub list_request : List ℕ
list_request = codes "SELECT * FROM request ORDER BY caller, number"

abbrev pub set_part : List ℕ
set_part =
    codes "UPDATE part SET devices = ?3, hour = ?4 WHERE ring = ?1 AND part = ?2"

abbrev pub add_part : List ℕ
add_part =
    codes "INSERT INTO part VALUES (?1, ?2, ?3, ?4)"

abbrev pub list_part : List ℕ
list_part = codes "SELECT * FROM part ORDER BY ring, part"

abbrev pub drop_device : List ℕ
drop_device = codes "DELETE FROM device WHERE ring = ?1 AND id = ?2"

abbrev pub pick_request : List ℕ
pick_request =
    codes "SELECT place, hour, command, reply FROM request WHERE caller = ?1 AND number = ?2"

abbrev pub page_request : List ℕ
page_request =
    codes "SELECT * FROM request WHERE place >= ?1 ORDER BY place LIMIT ?2"

abbrev pub clear_seat : List ℕ
clear_seat = codes "DELETE FROM seat"

abbrev pub clear_moved : List ℕ
clear_moved = codes "DELETE FROM moved"

abbrev pub create_meta : List ℕ
create_meta =
    codes "CREATE TABLE meta (one INTEGER NOT NULL, schema INTEGER NOT NULL, "
    ++ codes "hour INTEGER NOT NULL, UNIQUE (one)) STRICT"

abbrev pub create_ring : List ℕ
create_ring =
    codes "CREATE TABLE ring (name TEXT NOT NULL, power INTEGER NOT NULL, "
    ++ codes "replicas INTEGER NOT NULL, min_hours INTEGER NOT NULL, "
    ++ codes "next_id INTEGER NOT NULL, version INTEGER NOT NULL, PRIMARY KEY (name)) STRICT"

abbrev pub create_device : List ℕ
create_device =
    codes "CREATE TABLE device (ring TEXT NOT NULL REFERENCES ring (name), "
    ++ codes "id INTEGER NOT NULL, region INTEGER NOT NULL, zone INTEGER NOT NULL, "
    ++ codes "address TEXT NOT NULL, port INTEGER NOT NULL, name TEXT NOT NULL, "
    ++ codes "weight INTEGER NOT NULL, removed INTEGER NOT NULL, PRIMARY KEY (ring, id), "
    ++ codes "UNIQUE (ring, address, port, name)) STRICT"

abbrev pub create_seat : List ℕ
create_seat =
    codes "CREATE TABLE seat (ring TEXT NOT NULL, part INTEGER NOT NULL, "
    ++ codes "replica INTEGER NOT NULL, device INTEGER NOT NULL, "
    ++ codes "PRIMARY KEY (ring, part, replica), UNIQUE (ring, part, device), "
    ++ codes "FOREIGN KEY (ring, device) REFERENCES device (ring, id)) STRICT"

abbrev pub create_moved : List ℕ
create_moved =
    codes "CREATE TABLE moved (ring TEXT NOT NULL REFERENCES ring (name), "
    ++ codes "part INTEGER NOT NULL, hour INTEGER NOT NULL, PRIMARY KEY (ring, part)) STRICT"

abbrev pub create_published : List ℕ
create_published =
    codes "CREATE TABLE published (ring TEXT NOT NULL REFERENCES ring (name), "
    ++ codes "version INTEGER NOT NULL, body TEXT NOT NULL, "
    ++ codes "PRIMARY KEY (ring, version)) STRICT"

abbrev pub create_request : List ℕ
create_request =
    codes "CREATE TABLE request (caller TEXT NOT NULL, number INTEGER NOT NULL, "
    ++ codes "place INTEGER NOT NULL, hour INTEGER NOT NULL, command TEXT NOT NULL, "
    ++ codes "reply TEXT NOT NULL, PRIMARY KEY (caller, number), UNIQUE (place)) STRICT"

abbrev pub create_part : List ℕ
create_part =
    codes "CREATE TABLE part (ring TEXT NOT NULL REFERENCES ring (name), "
    ++ codes "part INTEGER NOT NULL, devices BLOB NOT NULL, hour INTEGER NOT NULL, "
    ++ codes "PRIMARY KEY (ring, part)) STRICT"

-- The text that makes a table, by how many tables there are before it.
abbrev pub create_text : ℕ → List ℕ
create_text made = slice_index_or (create_meta ∷ create_ring ∷ create_device ∷ create_seat ∷
    create_moved ∷ create_published ∷ create_request ∷ create_part ∷ []) made []
