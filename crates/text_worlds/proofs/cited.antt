pub mod desk
