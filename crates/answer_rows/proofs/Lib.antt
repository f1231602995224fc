pub mod PrintLaws
pub mod SentLemmas
pub mod RangeLaws
pub mod CountLemmas
pub mod WeakerLaws
pub mod RoomLemmas
