-- 01, Bytes and "Not readable": what is read of a message, and what makes it unreadable; offsets of J.280's tables.
use Rattle.std.specs.Prelude.{Bool, cond, not, ◌||◌, List, ℕ, eqb, length, None, Option, Some}
use Rattle.rules.specs.declared.Message.{Message}
use Rattle.rules.specs.declared.Message.TheVariants.{Init, Alive, Abort, Config, Extended}
use Rattle.rules.specs.Bytes.{part, field, has_zero}
use Rattle.rules.specs.Hardware.{bad_hardware}
use Rattle.rules.specs.Request.{read_splice}

-- "Read: Init_Request, Alive_Request, Splice_Request, Abort_Request."; 02, CR 8: and ExtendedData_Request
-- "Init_Request 0x0001: Revision_Num 2, ChannelName 32, SplicerName 32"
abbrev pub init_request : ℕ
init_request = 0x0001

-- "Alive_Request 0x0005: time 8."
abbrev pub alive_request : ℕ
alive_request = 0x0005

-- "Splice_Request 0x0007: SessionID 4, PriorSession 4, time 8, ServiceID 2"
abbrev pub splice_request : ℕ
splice_request = 0x0007

-- "Abort_Request 0x000E …: SessionID 4."
abbrev pub abort_request : ℕ
abort_request = 0x000E

abbrev pub extended_request : ℕ
extended_request = 0x0003

-- 02, CR 6: "Servers ask with GetConfig_Request (0x000A, no data)"
abbrev pub config_request : ℕ
config_request = 0x000A

-- Init_Request: Revision_Num 2, ChannelName 32, SplicerName 32, then Hardware_Config, the rest unread
abbrev pub channel_name : List ℕ → List ℕ
channel_name d = part 2 32 d

abbrev pub splicer_name : List ℕ → List ℕ
splicer_name d = part 34 32 d

-- "the rest unread"
-- "Not readable: Init data below 66 bytes or either name without a zero"
abbrev pub bad_init : List ℕ → Bool
bad_init d = bad_hardware d || (not (has_zero (channel_name d)) || not (has_zero (splicer_name d)))

unfoldable pub read_init : List ℕ → Option Message
read_init d = cond (bad_init d) None (Some (Init (field 0 2 d)))

-- Alive_Request: time 8. "An Alive time is not checked."
-- "Alive data other than 8 bytes"
unfoldable pub read_alive : List ℕ → Option Message
read_alive d = cond (eqb (length d) 8) (Some Alive) None

-- Abort_Request: SessionID 4
-- "Abort data other than 4"
unfoldable pub read_abort : List ℕ → Option Message
read_abort d = cond (eqb (length d) 4) (Some (Abort (field 0 4 d))) None

-- 02, CR 8: ExtendedData_Request: SessionID 4, ExtendedDataType 4 (000, Table 7-12). "the default type, 0xFFFFFFFF"
abbrev pub default_type : ℕ
default_type = 0xFFFFFFFF

-- "123 for another type or a size not 8"
abbrev pub bad_extended : List ℕ → Bool
bad_extended d = not (eqb (length d) 8) || not (eqb (field 4 4 d) default_type)

unfoldable pub read_extended : List ℕ → Option Message
read_extended d = cond (bad_extended d) None (Some (Extended (field 0 4 d)))

-- 02, CR 6: "GetConfig_Request (0x000A, no data)"; "123 for data present"
unfoldable pub read_config : List ℕ → Option Message
read_config d = cond (eqb (length d) 0) (Some Config) None

-- ## The tail of a Splice_Request

-- the list of four; 02: and ExtendedData_Request (CR 8), GetConfig_Request (CR 6)
abbrev pub is_read : ℕ → Bool
is_read id =
    eqb id init_request
    || (eqb id alive_request || (eqb id splice_request || (eqb id abort_request || (eqb id extended_request || eqb id config_request))))

-- a message of that list, by its MessageID and its data
-- "A parsed message is one of its kinds"
unfoldable pub read : ℕ → List ℕ → Option Message
read id d =
    cond (eqb id init_request) (read_init d)
    (cond (eqb id alive_request) (read_alive d)
    (cond (eqb id splice_request) (read_splice d)
    (cond (eqb id abort_request) (read_abort d)
    (cond (eqb id extended_request) (read_extended d)
    (cond (eqb id config_request) (read_config d) None)))))
