-- the records, the table of refusals, and what the answers say
pub mod Records
pub mod Told
pub mod Refusals
pub mod Kinds
pub mod Fields
pub mod Lines
pub mod Table
pub mod Answers
-- theorems: what the line reader's answer says, what the place of a refusal is, and the limits worked out
pub mod LineAnswers
pub mod Places
pub mod WorkedFields
-- laws of them, which the code and the theorems use
pub mod Untold
pub mod FieldLaws
pub mod LinesLaws
pub mod TableLaws
